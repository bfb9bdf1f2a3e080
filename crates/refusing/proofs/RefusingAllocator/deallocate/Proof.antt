-- The block goes back to the inner allocator, called at a `&` to its field. All else that it takes
-- is what `deallocate` was handed, since the right to free a block is the inner allocator's.
use Rattle.std.proofs.Common.{[], ◌∷◌, refl, ap, w64}
use Rattle.std.proofs.raw_atomic.Walks.{proved}
use Rattle.std.specs.contracts.alloc.Allocator.deallocate as g
use Rattle.std.specs.declared.alloc.Allocator.{Ghosts}
use base.Fml.{ftrue}
use base.Logic.{id⊢}
use contract.Running.{tables}
use denote.Builtin.{unit, usize, RefOf}
use denote.Exit.{yes}
use denote.Param.{bounded, param}
use denote.Plain.{uint_vals, uint_Tells}
use denote.RattleType.{RattleType, Valss, owns}
use denote.RawPtr.{RawPtr, rawptr_vals, rawptr_Tells, rawptr_Lawful}
use denote.Ref.{shr_vals, shr_Tells}
use denote.Signature.{Slot, plain}
use denote.Steps.{nothing, only}
use denote.Triple.Call.{calls_at}
use denote.Triple.Clauses.{Ended, Lasts, lasts}
use denote.Triple.Entry.{alive}
use denote.Triple.Spec.{triple_of}
use denote.Triple.Table.{framed}
use denote.Triple.Walked.{Stays, walk_of, stay_dropped, Goes, Silent, Goes-dropped, ends_at}
use mir.MapTy.{inst_fn}
use mir.Syntax.{Dict, named, a_type, dnil, dcons}
use mir.Val.{vunit}
use types.ByLocal.{alloc_all, pass_all, free_all, look_at, get, through, sets, lands_as}
use types.Kit.{‵, raw, ◌⊛◌, some, later, ◌$◌, ◌∵◌, !, qed, done, move, keep, use1, split, join, feq_i, feq_l, pick, await, suffices, group}
use types.Run.{enter, of_opd, unit_lit, addr, stop, fld, no_more, and_then, returns}
use Rattle.refusing.proofs.Fields.{inner_of, whole_owned, inner_owned, requests_owned, fields_lent}
use Rattle.refusing.proofs.RefusingAllocator.deallocate.Code as code
use Rattle.refusing.proofs.RefusingAllocator.deallocate.Statement.{statement}
use Rattle.refusing.specs.contracts.Refusing.{the_row}
use Rattle.refusing.specs.contracts.RefusingAllocator.deallocate as f

module _ (B : RattleType) (ghosts : Ghosts B.Denot) (methods drops : Dict) where
  abbrev E : Ended
  E = f.ended B ghosts methods drops

  -- nothing of the parameters is held at the end
  abbrev stayed : Stays E.signature.params E.kept
  stayed = (stay_dropped _ yes, (stay_dropped _ yes, (stay_dropped _ yes, (stay_dropped _ yes, tt))))

pub deallocate_spec : {M : Type 1} → statement M
deallocate_spec 𝓤 𝓛 𝓜 𝓡 wired B L ghosts methods drops met _ =
    let e = E B ghosts methods drops in let S = e.signature in let hs = stayed B ghosts methods drops in
    let c = f.clauses B ghosts methods drops 𝓛 𝓜.mem 𝓡.returns in let W = walk_of 𝓛 e hs c in
    let args = bounded (a_type ∷ []) (B, tt) (dcons methods (dcons drops dnil)) in
    let goes : (s : Slot 2) → Silent 𝓛 2 s yes → Goes 𝓛 2 s yes (stay_dropped s yes) = λ s. Goes-dropped 𝓛 2 s yes in
    let word = goes (plain (λ _. usize)) (λ κs x w. refl) in
    proved 𝓛 e hs c 𝓜 𝓡
    (goes (RefOf (0 ∷ []) tt (plain (λ _. the_row (param 0 B))) (λ _. tt)) (λ κs x w. refl), (goes (plain (λ _. RawPtr)) (λ κs x w. refl), (word, (word, tt))))
    (f.Key.name args) (inst_fn args code.function) (code.unfolded 𝓤 𝓛.H 𝓜 𝓡 wired (B, tt) methods drops)
    (λ κs. (shr_vals, (rawptr_vals, (uint_vals w64, (uint_vals w64, tt)))))
    (λ κs. (shr_Tells (named 0) κs.0 (the_row (param 0 B)), (rawptr_Tells, (uint_Tells w64, (uint_Tells w64, tt))))) (λ κs qs bounds a τ are.
    let inner = inner_of B a.0 in
    let vs : Valss (RawPtr ∷ usize ∷ usize ∷ []) = (rawptr_vals a.1.0, (uint_vals w64 a.1.1.0, (uint_vals w64 a.1.1.1.0, tt))) in
    let y : W.Ghost = ((κs, qs, bounds, a, (shr_vals a.0, vs)), τ) in
    -- the contract of the inner allocator's `deallocate`, and what it is called at
    let G = triple_of 𝓛 (g.signature B) (g.spec B ghosts methods drops 𝓛 𝓜.mem 𝓡.returns) in
    let G' = g.ended B ghosts methods drops in
    let z : G.Ghost = ((κs, qs, bounds, (inner, a.1), (shr_vals inner, vs)), τ) in
    qed 𝓛 ((raw (alive 𝓛 S κs qs) ⊛ ‵ (whole_owned B a.0 κs.0) ⊛ ‵ (owns (RawPtr ∷ usize ∷ usize ∷ []) a.1 vs)) ∷ raw ((c κs a).requires τ) ∷ []) ∵
    split ! $ move ! (1 ∷ []) $ split ! $
    -- [self; the other parameters; the tokens; what is required]
    use1 𝓛 (‵ (inner_owned B a.0 κs.0) ⊛ ‵ (requests_owned B a.0 κs.0)) (fields_lent B a.0 κs.0 𝓛) $
    split ! $ keep ! (0 ∷ 2 ∷ 3 ∷ 4 ∷ []) $ join ! $ move ! (1 ∷ 0 ∷ []) $ join ! $ join ! $ use1 𝓛 (raw (G.pre z)) (id⊢ 𝓤 _) $
    enter ! _ _ _ _ _ $
    alloc_all ! (λ l. pass_all ! refl ((tt, tt), (((rawptr_Lawful 𝓛).typed a.1.0 _ refl).0, ((tt, record { fits = are.1.1.0.1 }), ((tt, record { fits = are.1.1.1.0.1 }), tt)))) $
    sets ! (addr ! (through ! refl (fld ! refl (stop !)))) refl (tt, tt) $
    calls_at ! (framed 𝓤 𝓛.H 𝓜 (tables 𝓤 𝓛.H 𝓜 𝓡 𝓡.env)) G (met.deallocate drops) z (and_then ! (get ! refl) (and_then ! (get ! refl) (and_then ! (get ! refl) (and_then ! (get ! refl) (no_more !))))) (λ v.
    use1 𝓛 (later (some (λ (u : Unit {0}). (raw (alive 𝓛 S κs qs) ⊛ ‵ (unit.own_val u (v ∷ []))) ⊛ some (λ (ws : Lasts G' κs z.0.3). ‵ (lasts G' κs z.0.3 ws) ⊛ ‵ ftrue)))) (id⊢ 𝓤 _) $
    await ! tt $ pick ! (λ u. split ! $ split ! $ move ! (1 ∷ []) $ feq_l ! (λ is_unit.
    lands_as ! (ap only is_unit) refl (tt, tt) $ sets ! (of_opd ! (unit_lit !)) refl (tt, tt) $
    returns ! (look_at ! 0 refl) $ free_all ! refl $ keep ! (0 ∷ []) $
    suffices ! _ (ends_at 𝓛 e hs c y vunit tt (tt, (tt, (tt, (tt, tt)))) (tt, (tt, (tt, (tt, tt))))) $
    nothing ! $ feq_i ! _ (vunit ∷ []) _ refl $
    nothing ! $ nothing ! $ join ! $ nothing ! $ join ! $ nothing ! $ join ! $ nothing ! $ join ! $
    -- [the parameters' ends; the result; what is ensured; the tokens]
    move ! (3 ∷ 0 ∷ 1 ∷ []) $ group ! 3 $ done !)))))
