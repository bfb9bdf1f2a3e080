use Rattle.std.proofs.Common.{List, [], ◌∷◌, refl}
use Rattle.std.proofs.raw_atomic.Walks.{proved}
use base.Fml.{ftrue}
use mir.Val.{Val, vunit}
use types.Kit.{‵, ◌⊛◌, ◌$◌, ◌∵◌, !, qed, done, drop, fjoin, fpack, feq_i, suffices}
use types.Run.{enter, unit_lit, no_more, and_then, returns}
use types.Part.{agg}
use types.ByLocal.{alloc_all, pass_all, free_all, look_at, sets}
use denote.RattleType.{Valss}
use denote.Struct.Owning.{shape, to}
use denote.Struct.Struct.{within}
use denote.Steps.{nothing}
use denote.Triple.Walked.{Stays, walk_of, says, ends_at}
use Rattle.priority_channel_core.specs.contracts.comparisons.Comparisons.new as f
use Rattle.priority_channel_core.proofs.comparisons.Comparisons.new.Statement.{statement}
use Rattle.priority_channel_core.proofs.comparisons.Comparisons.new.Code as code
use Rattle.priority_channel_core.specs.contracts.comparisons.Comparisons.{the_row as R, the_type as T}
use Rattle.priority_channel_core.proofs.comparisons.Comparisons.TheLaws.{lowered}

-- there is no parameter
abbrev stayed : Stays f.ended.signature.params f.ended.kept
stayed = tt

-- No contract reads where a count begins, so any number would do.
abbrev first_count : R.Denot
first_count = record { seal = tt; count = 0 }

pub new_spec : {M : Type 1} → statement M
new_spec 𝓤 𝓛 𝓜 𝓡 wired =
    let c = f.clauses 𝓛 𝓜.mem 𝓡.returns in let W = walk_of 𝓛 f.ended stayed c in
    proved 𝓛 f.ended stayed c 𝓜 𝓡 tt
    f.Key.name code.function (code.unfolded 𝓤 𝓛.H 𝓜 𝓡 wired) (λ κs. tt) (λ κs. tt) (λ κs qs bounds a _ are.
    let y : W.Ghost = ((κs, qs, bounds, a, tt), tt) in
    let v = lowered first_count in
    qed 𝓛 ((‵ ftrue ⊛ ‵ ftrue) ∷ ‵ ftrue ∷ []) ∵ drop ! $ drop ! $
    enter ! _ _ _ _ _ $ alloc_all ! (λ l. pass_all ! refl tt $
    sets ! (agg ! (and_then ! (unit_lit !) (no_more !))) refl (tt, (tt, tt)) $
    returns ! (look_at ! 0 refl) $ free_all ! refl $
    suffices ! _ (ends_at 𝓛 f.ended stayed c y v first_count tt tt) $ says ! refl $
    -- what the new value owns, from its end: nothing beside its one field, which is a unit
    nothing ! $ nothing ! $ feq_i ! _ (vunit ∷ []) _ refl $ fjoin ! $ feq_i ! (List Val) (v ∷ []) _ refl $ fjoin ! $
    fpack ! (Valss (shape T).fields) (within (shape T) (to T first_count) (v ∷ [])) (vunit ∷ [], tt) $ fjoin ! $
    nothing ! $ nothing ! $ done !))
