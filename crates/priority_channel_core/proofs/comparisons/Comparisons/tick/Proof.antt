use Rattle.std.proofs.Common.{◌+◌, [], ◌∷◌, refl, MutBor}
use Rattle.std.proofs.raw_atomic.Walks.{proved}
use base.Fml.{Fml, Lft, Share, ftrue, flft}
use base.Logic.{ent, sep, id⊢}
use denote.Ref.{MutRef, mut_vals, mut_Tells}
use denote.Signature.{plain}
use denote.Steps.{nothing, opens, closes}
use denote.Triple.Entry.{on_entry}
use denote.Triple.Walked.{Stays, walk_of, says, stay_ref, Goes-ref, ends_at}
use mir.Syntax.{named}
use mir.Val.{vunit}
use seplogic.Ra.Ura.{Ura}
use types.ByLocal.{alloc_all, pass_all, free_all, look_at, sets}
use types.Kit.{‵, raw, ◌⊛◌, later, ◌$◌, ◌∵◌, !, qed, done, move, keep, use1, use2, split, join, fsplit3, fjoin, feq_i, await, updating, now as at_once, suffices}
use types.Logic.{Logic, sem}
use types.Run.{enter, of_opd, unit_lit, returns}
use Rattle.priority_channel_core.specs.contracts.comparisons.Comparisons.{the_row as R}
use Rattle.priority_channel_core.specs.contracts.comparisons.Comparisons.tick as f
use Rattle.priority_channel_core.proofs.comparisons.Comparisons.tick.Statement.{statement}
use Rattle.priority_channel_core.proofs.comparisons.Comparisons.tick.Code as code

-- the counter is still borrowed at the end
abbrev stayed : Stays f.ended.signature.params f.ended.kept
stayed = (stay_ref (0 ∷ []) tt (plain (λ _. R)), tt)

abbrev one_more : R.Denot → R.Denot
one_more c = record c { count = c.count + 1 }

abbrev owned : Lft → MutBor R.Denot → Fml
owned κ r = (MutRef (named 0) κ R).own_val r (mut_vals r)

-- No code counts. The count stands beside memory of no bytes, so only the proof changes it, while
-- the borrow is open.
counted : {M : Type 1} {𝓤 : Ura M} (𝓛 : Logic 𝓤) (κ : Lft) (q : Share) (r : MutBor R.Denot)
    → ent 𝓤 (sep 𝓤 (sem 𝓛 (owned κ r)) (sem 𝓛 (flft κ q))) (𝓛.H.⇛ (sep 𝓤 (sem 𝓛 (owned κ (record r { now = one_more r.now }))) (sem 𝓛 (flft κ q))))
counted 𝓛 κ q r =
    let b = r.ref_ptr.0 in let o = r.ref_ptr.1 in
    qed 𝓛 (‵ (owned κ r) ∷ ‵ (flft κ q) ∷ []) ∵ updating ! $ fsplit3 ! $
    -- [where it points; what is known of the count; the borrow; the token]
    move ! (1 ∷ 2 ∷ 3 ∷ []) $ opens ! tt R b o (λ bytes. closes ! tt R (one_more r.now) bytes b o $
    fjoin ! $ move ! (2 ∷ 0 ∷ []) $ fjoin ! $ at_once ! $ done !)

pub tick_spec : {M : Type 1} → statement M
tick_spec 𝓤 𝓛 𝓜 𝓡 wired =
    let c = f.clauses 𝓛 𝓜.mem 𝓡.returns in let W = walk_of 𝓛 f.ended stayed c in
    proved 𝓛 f.ended stayed c 𝓜 𝓡 (Goes-ref 𝓛 1 0 tt (plain (λ _. R)), tt)
    f.Key.name code.function (code.unfolded 𝓤 𝓛.H 𝓜 𝓡 wired)
    (λ κs. (mut_vals, tt)) (λ κs. (mut_Tells (named 0) κs.0 R, tt)) (λ κs qs bounds a _ are.
    let κ = κs.0 in let q = qs.0 in let r = a.0 in let last = one_more r.now in
    let y : W.Ghost = ((κs, qs, bounds, a, (mut_vals r, tt)), tt) in
    qed 𝓛 (raw (on_entry 𝓛 f.signature κs qs a (mut_vals r, tt)) ∷ ‵ ftrue ∷ []) ∵
    use1 𝓛 ((‵ (flft κ q) ⊛ ‵ ftrue) ⊛ ‵ (owned κ r) ⊛ ‵ ftrue) (id⊢ 𝓤 _) $
    split ! $ split ! $ move ! (2 ∷ []) $ split ! $ keep ! (0 ∷ 2 ∷ []) $
    -- [the counter; the token]
    enter ! _ _ _ _ _ $ alloc_all ! (λ l. pass_all ! refl ((tt, tt), tt) $
    use2 𝓛 (later (‵ (owned κ (record r { now = last })) ⊛ ‵ (flft κ q))) (counted 𝓛 κ q r) $ await ! tt $ split ! $
    sets ! (of_opd ! (unit_lit !)) refl (tt, tt) $ returns ! (look_at ! 0 refl) $ free_all ! refl $
    suffices ! _ (ends_at 𝓛 f.ended stayed c y vunit tt (last, tt) (tt, tt)) $ says ! refl $
    feq_i ! _ (vunit ∷ []) _ refl $ nothing ! $ move ! (2 ∷ 0 ∷ []) $ join ! $ nothing ! $ move ! (3 ∷ 0 ∷ []) $ join ! $ done !))
