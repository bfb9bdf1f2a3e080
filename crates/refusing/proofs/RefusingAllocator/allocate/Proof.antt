-- A refused request gives an error, which owns nothing. Another is the inner allocator's, called at
-- a `&` to its field, and what that gives is handed on.
use Rattle.std.proofs.Common.{Bool, false, [], ◌∷◌, refl, ap, lit<, w64, Err}
use Rattle.std.proofs.VecSteps.Shapes.{after}
use Rattle.std.proofs.alloc.AllocError.TheLaws.{the_row_laws as error_laws}
use Rattle.std.proofs.alloc.Calls.{Answer, answer_val, Answer-err}
use Rattle.std.proofs.raw_atomic.Walks.{proved}
use Rattle.std.proofs.result.Result.TheLaws.{the_row_laws as answer_laws}
use Rattle.std.specs.Allocator.{block_if_ok}
use Rattle.std.specs.contracts.alloc.AllocError.{the_row as error_row}
use Rattle.std.specs.contracts.alloc.Allocator.allocate as g
use Rattle.std.specs.declared.alloc.Allocator.{Ghosts}
use base.Fml.{ftrue, flft}
use base.Logic.{id⊢}
use borrow.Table.RawPtr.{ptr_laws}
use contract.Running.{tables}
use denote.Builtin.{bool, usize, RefOf}
use denote.Exit.{yes}
use denote.Laws.{Is, shows}
use denote.Param.{bounded, param}
use denote.Plain.{uint_vals, uint_Tells}
use denote.RattleType.{RattleType, Valss, owns}
use denote.RawPtr.{RawPtr}
use denote.Ref.{shr_vals, shr_Tells}
use denote.Signature.{Slot, plain}
use denote.Steps.{nothing, only, peeks}
use denote.Triple.Call.{calls_at}
use denote.Triple.Clauses.{Ended, Lasts, lasts}
use denote.Triple.Entry.{alive}
use denote.Triple.Spec.{triple_of}
use denote.Triple.Table.{framed}
use denote.Triple.Walked.{Stays, walk_of, stay_dropped, Goes, Silent, Goes-dropped, ends_at}
use mir.MapTy.{inst_fn}
use mir.Syntax.{Dict, named, a_type, dnil, dcons}
use types.ByLocal.{env, alloc_all, pass_all, free_all, look_at, get, through, sets, lands_as}
use types.Kit.{‵, raw, ◌⊛◌, some, later, at_ret, ◌$◌, ◌∵◌, !, qed, done, move, keep, drop, use0, use1, split, join, feq_l, pick, await, suffices, group}
use types.Part.{agg}
use types.Run.{enter, lit, addr, stop, fld, no_more, and_then, first, branches, skips, exec, returns, returns_within}
use Rattle.refusing.proofs.Fields.{inner_of, requests_of, whole_owned, inner_owned, requests_owned, fields_lent}
use Rattle.refusing.proofs.RefusingAllocator.allocate.Code as code
use Rattle.refusing.proofs.RefusingAllocator.allocate.Statement.{statement}
use Rattle.refusing.proofs.count_request.Met as count_request
use Rattle.refusing.specs.contracts.Refusing.{the_row}
use Rattle.refusing.specs.contracts.RefusingAllocator.allocate as f
use Rattle.refusing.specs.contracts.count_request as t

module _ (B : RattleType) (ghosts : Ghosts B.Denot) (methods drops : Dict) where
  abbrev E : Ended
  E = f.ended B ghosts methods drops

  -- nothing of the parameters is held at the end
  abbrev stayed : Stays E.signature.params E.kept
  stayed = (stay_dropped _ yes, (stay_dropped _ yes, (stay_dropped _ yes, tt)))

pub allocate_spec : {M : Type 1} → statement M
allocate_spec 𝓤 𝓛 𝓜 𝓡 wired B L ghosts methods drops met _ =
    let e = E B ghosts methods drops in let S = e.signature in let hs = stayed B ghosts methods drops in
    let c = f.clauses B ghosts methods drops 𝓛 𝓜.mem 𝓡.returns in let W = walk_of 𝓛 e hs c in
    let args = bounded (a_type ∷ []) (B, tt) (dcons methods (dcons drops dnil)) in
    let function = inst_fn args code.function in
    let 𝓣 = tables 𝓤 𝓛.H 𝓜 𝓡 𝓡.env in let fm = framed 𝓤 𝓛.H 𝓜 𝓣 in
    let goes : (s : Slot 2) → Silent 𝓛 2 s yes → Goes 𝓛 2 s yes (stay_dropped s yes) = λ s. Goes-dropped 𝓛 2 s yes in
    let word = goes (plain (λ _. usize)) (λ κs x w. refl) in
    proved 𝓛 e hs c 𝓜 𝓡
    (goes (RefOf (0 ∷ []) tt (plain (λ _. the_row (param 0 B))) (λ _. tt)) (λ κs x w. refl), (word, (word, tt)))
    (f.Key.name args) function (code.unfolded 𝓤 𝓛.H 𝓜 𝓡 wired (B, tt) methods drops)
    (λ κs. (shr_vals, (uint_vals w64, (uint_vals w64, tt))))
    (λ κs. (shr_Tells (named 0) κs.0 (the_row (param 0 B)), (uint_Tells w64, (uint_Tells w64, tt)))) (λ κs qs bounds a τ are.
    let κ = κs.0 in let inner = inner_of B a.0 in let requests = requests_of B a.0 in
    let vs : Valss (usize ∷ usize ∷ []) = (uint_vals w64 a.1.0, (uint_vals w64 a.1.1.0, tt)) in
    let y : W.Ghost = ((κs, qs, bounds, a, (shr_vals a.0, vs)), τ) in
    -- the contract of `count_request`, and what it is called at; that of the inner allocator's
    -- `allocate`, and what that is called at
    let F = triple_of 𝓛 t.signature (t.spec 𝓛 𝓜.mem 𝓡.returns) in
    let x : F.Ghost = (((κ, tt), (qs.0, tt), tt, (requests, tt), (shr_vals requests, tt)), tt) in
    let G = triple_of 𝓛 (g.signature B) (g.spec B ghosts methods drops 𝓛 𝓜.mem 𝓡.returns) in let G' = g.ended B ghosts methods drops in
    let z : G.Ghost = ((κs, qs, bounds, (inner, a.1), (shr_vals inner, vs)), τ) in
    qed 𝓛 (((‵ (flft κ qs.0) ⊛ ‵ (flft κs.1.0 qs.1.0) ⊛ ‵ ftrue) ⊛ ‵ (whole_owned B a.0 κ) ⊛ ‵ (owns (usize ∷ usize ∷ []) a.1 vs)) ∷ raw ((c κs a).requires τ) ∷ []) ∵
    split ! $ split ! $ move ! (2 ∷ []) $ split ! $ use1 𝓛 (‵ (inner_owned B a.0 κ) ⊛ ‵ (requests_owned B a.0 κ)) (fields_lent B a.0 κ 𝓛) $ split ! $
    -- [the inner allocator; the requests; the other parameters; the token of κ; the other tokens;
    -- what is required]
    nothing ! $ nothing ! $ move ! (3 ∷ 0 ∷ []) $ join ! $ nothing ! $ move ! (5 ∷ 0 ∷ []) $ join ! $ join ! $ join ! $ use1 𝓛 (raw (F.pre x)) (id⊢ 𝓤 _) $
    enter ! _ _ _ _ _ $
    alloc_all ! (λ l. pass_all ! refl ((tt, tt), ((tt, record { fits = are.1.0.1 }), ((tt, record { fits = are.1.1.0.1 }), tt))) $
    sets ! (addr ! (through ! refl (fld ! refl (stop !)))) refl (tt, tt) $
    calls_at ! fm F (count_request.met 𝓤 𝓛 𝓜 𝓡 (code.calls-refusing::count_request 𝓡.env wired)) x (and_then ! (get ! refl) (no_more !)) (λ v.
    use1 𝓛 (later (some (λ (b : Bool). ((‵ (flft κ qs.0) ⊛ ‵ ftrue) ⊛ ‵ (bool.own_val b (v ∷ []))) ⊛ some (λ (ws : Lasts t.ended (κ, tt) x.0.3). ‵ (lasts t.ended (κ, tt) x.0.3 ws) ⊛ ‵ ftrue)))) (id⊢ 𝓤 _) $
    await ! tt $ pick ! (λ b. split ! $ split ! $ split ! $ move ! (2 ∷ []) $ feq_l ! (λ is_b. lands_as ! (ap only is_b) refl (tt, tt) $
    move ! (0 ∷ 5 ∷ []) $ join ! $
    -- [the tokens; nothing; what the call left; the inner allocator; the other parameters; what is
    -- required]
    first ! $ branches ! (get ! refl)
    (λ refused.
    sets ! (agg ! (no_more !)) refl (tt, tt) $
    sets ! (agg ! (and_then ! (lit ! tt) (and_then ! (get ! refl) (no_more !)))) refl (tt, (record { fits = lit< tt }, (tt, tt))) $
    returns_within ! (W.post y) refl (look_at ! 0 refl) $ free_all ! refl $ keep ! (0 ∷ []) $
    suffices ! _ (ends_at 𝓛 e hs c y (answer_val false 0 0) (Err (record {})) (tt, (tt, (tt, tt))) (tt, (tt, (tt, tt)))) $
    nothing ! $ use0 𝓛 (‵ (Answer.own_val (Err (record {})) (answer_val false 0 0 ∷ []))) (Answer-err 𝓛) $
    nothing ! $ nothing ! $ join ! $ nothing ! $ join ! $ nothing ! $ join ! $ move ! (3 ∷ 0 ∷ 1 ∷ []) $ group ! 3 $ done !)
    (λ passed.
    skips ! $ exec ! 𝓣.C 𝓣.Λ (env function.locals l) (after 3 function.body) (at_ret _ (W.post y)) $
    sets ! (addr ! (through ! refl (fld ! refl (stop !)))) refl (tt, tt) $
    move ! (3 ∷ 4 ∷ []) $ join ! $ move ! (1 ∷ 0 ∷ []) $ join ! $ move ! (0 ∷ 3 ∷ []) $ join ! $ use1 𝓛 (raw (G.pre z)) (id⊢ 𝓤 _) $
    calls_at ! fm G (met.allocate drops) z (and_then ! (get ! refl) (and_then ! (get ! refl) (and_then ! (get ! refl) (no_more !)))) (λ u.
    use1 𝓛 (later (some (λ (o : Answer.Denot). (raw (alive 𝓛 S κs qs) ⊛ ‵ (Answer.own_val o (u ∷ []))) ⊛ some (λ (ws : Lasts G' κs z.0.3). ‵ (lasts G' κs z.0.3 ws) ⊛ ‵ (block_if_ok (ghosts.dealloc_token a.0.now.inner) τ o))))) (id⊢ 𝓤 _) $
    await ! tt $ pick ! (λ o. split ! $ split ! $ move ! (1 ∷ []) $ peeks ! Answer (Is Answer) (shows 𝓛 Answer) o (u ∷ []) (λ is.
    lands_as ! refl refl (((answer_laws RawPtr error_row ptr_laws error_laws).lawful 𝓛).typed o (u ∷ []) is).0 $
    move ! (2 ∷ []) $ pick ! (λ ws. split ! $ drop ! $
    -- [the block, if there is one; the answer; the tokens]
    returns ! (look_at ! 0 refl) $ free_all ! refl $ keep ! (0 ∷ 1 ∷ 2 ∷ []) $
    suffices ! _ (ends_at 𝓛 e hs c y u o (tt, (tt, (tt, tt))) (tt, (tt, (tt, tt)))) $
    nothing ! $ nothing ! $ join ! $ nothing ! $ join ! $ nothing ! $ join ! $ move ! (3 ∷ 0 ∷ 2 ∷ []) $ group ! 3 $ done !))))))))))
