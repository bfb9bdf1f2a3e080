-- A history fixes the state that it ends in.
use Rattle.std.proofs.Common.{◌≡◌, ℕ, true, false, List, [], ◌∷◌, ◌++◌, length, length-append, refl, sym, ap, ◌∙◌, subst, arith, inl, inr, Some, None, Ok, Err}
use Rattle.std.specs.List.{AllZip}
use Rattle.std.specs.Cmp.{IsTotalOrder}
use Rattle.priority_channel_core.specs.declared.calls.Answer.TheVariants as answer
use Rattle.priority_channel_core.specs.declared.errors.TrySendError.TheVariants as send_error
use Rattle.priority_channel_core.specs.declared.errors.TryRecvError.TheVariants as recv_error
use Rattle.priority_channel_core.proofs.items.Extremes.{one_greatest, one_least}
use Rattle.priority_channel_core.specs.machine.Change.{GoesOut, MakesWay}
use Rattle.priority_channel_core.specs.Prelude.{Handed, opening, after, AddsFront, Does, Sends, Moves, Step, Answers, Operation, Run, Ordering}
use Rattle.priority_channel_recorded.specs.declared.book.Call.{Call}
use Rattle.priority_channel_recorded.specs.declared.book.Call.TheVariants.{TrySend, TrySendEvicting, TryRecv, Close, IsClosed, IsEmpty, IsFull, Len}
use Rattle.priority_channel_recorded.specs.declared.book.Reply.{Reply}
use Rattle.priority_channel_recorded.specs.declared.book.Entry.{Entry}
use Rattle.priority_channel_recorded.specs.History.{Machine, call_of, reply_of, Records, IsHistory}

no_front : {X : Type 0} (x y : X) (front : List X) → x ∷ [] ≡ front ++ y ∷ [] → front ≡ []
no_front x y [] e = refl
no_front x y (z ∷ front) e = let l = ap length e in let m = length-append front (y ∷ []) in absurd (omega arith)

module _ {T P : Type 0} {cmp : P → P → Ordering} (o : IsTotalOrder cmp) where
  abbrev Goes : Machine T P → Call T P → Answers T P → Handed (Unit {0}) → Machine T P → Type 0
  Goes old call told handed new = Moves cmp (λ waker kept. kept ≡ waker) old (call_of call) told handed new

  same_answer : (old new other : Machine T P) (handed others : Handed (Unit {0})) (call : Call T P) (told again : Answers T P) (reply : Reply T P)
      → Goes old call told handed new → Goes old call again others other → reply_of told ≡ Some reply → reply_of again ≡ Some reply → told ≡ again
  same_answer old new other handed others (TrySend msg priority) (answer.TrySend one) (answer.TrySend two) reply m n e f = cc
  same_answer old new other handed others (TrySendEvicting msg priority) (answer.TrySendEvicting one) (answer.TrySendEvicting two) reply m n e f = cc
  same_answer old new other handed others TryRecv (answer.TryRecv one) (answer.TryRecv two) reply m n e f = cc
  same_answer old new other handed others Close (answer.Close one) (answer.Close two) reply m n e f = cc
  same_answer old new other handed others IsClosed (answer.IsClosed one) (answer.IsClosed two) reply m n e f = cc
  same_answer old new other handed others IsEmpty (answer.IsEmpty one) (answer.IsEmpty two) reply m n e f = cc
  same_answer old new other handed others IsFull (answer.IsFull one) (answer.IsFull two) reply m n e f = cc
  same_answer old new other handed others Len (answer.Len one) (answer.Len two) reply m n e f = cc
  same_answer old new other handed others call told again reply m n e f = absurd (assumption)

  adds_none : (old new other : Machine T P) (handed others : Handed (Unit {0})) (front again : List (T × P)) → front ≡ [] → again ≡ []
      → AddsFront old front handed new → AddsFront old again others other → new ≡ other
  adds_none old new other handed others front again e f m n = m.1 ∙ rw (e, f) refl ∙ sym n.1

  all_sent : (old new other : Machine T P) (handed others : Handed (Unit {0})) (pair : T × P) → Sends old (Does old handed new) (pair ∷ []) (Ok tt)
      → Sends old (Does old others other) (pair ∷ []) (Ok tt) → new ≡ other
  all_sent old new other handed others pair m n = m.2.1.1 ∙ sym n.2.1.1

  same_state : (old new other : Machine T P) (handed others : Handed (Unit {0})) (call : Call T P) (told : Answers T P)
      → Goes old call told handed new → Goes old call told others other → new ≡ other
  same_state old new other handed others (TrySend msg priority) (answer.TrySend (Ok sent)) m n = all_sent old new other handed others (msg, priority) m n
  same_state old new other handed others (TrySend msg priority) (answer.TrySend (Err (send_error.Closed pair))) m n = m.2.1 ∙ sym n.2.1
  same_state old new other handed others (TrySend msg priority) (answer.TrySend (Err (send_error.Full pair))) m n =
      adds_none old new other handed others m.0 n.0 (no_front _ pair m.0 m.1) (no_front _ pair n.0 n.1) m.4.1 n.4.1
  same_state old new other handed others (TrySend msg priority) (answer.TrySend (Err (send_error.Memory pair))) m n =
      adds_none old new other handed others m.0 n.0 (no_front _ pair m.0 m.1) (no_front _ pair n.0 n.1) m.4.1 n.4.1
  same_state old new other handed others (TrySendEvicting msg priority) (answer.TrySendEvicting (Ok None)) m n =
      all_sent old new other handed others (msg, priority) m n
  same_state old new other handed others (TrySendEvicting msg priority) (answer.TrySendEvicting (Ok (Some out))) m n =
      m.4.1.1 ∙ ap (λ (left : List (T × P)). after old (MakesWay left (msg, priority))) (one_least o old.pending out out m.0 n.0 m.3 n.3).1 ∙ sym n.4.1.1
  same_state old new other handed others (TrySendEvicting msg priority) (answer.TrySendEvicting (Err (send_error.Closed pair))) m n = m.2.1 ∙ sym n.2.1
  same_state old new other handed others (TrySendEvicting msg priority) (answer.TrySendEvicting (Err (send_error.Full pair))) m n =
      adds_none old new other handed others m.1.0 n.1.0 (no_front _ pair m.1.0 m.1.1) (no_front _ pair n.1.0 n.1.1) m.1.4.1 n.1.4.1
  same_state old new other handed others (TrySendEvicting msg priority) (answer.TrySendEvicting (Err (send_error.Memory pair))) (inl m) (inl n) =
      adds_none old new other handed others m.0 n.0 (no_front _ pair m.0 m.1) (no_front _ pair n.0 n.1) m.4.1 n.4.1
  same_state old new other handed others (TrySendEvicting msg priority) (answer.TrySendEvicting (Err (send_error.Memory pair))) (inl m) (inr n) =
      absurd (omega (arith, m.2, n.1))
  same_state old new other handed others (TrySendEvicting msg priority) (answer.TrySendEvicting (Err (send_error.Memory pair))) (inr m) (inl n) =
      absurd (omega (arith, n.2, m.1))
  same_state old new other handed others (TrySendEvicting msg priority) (answer.TrySendEvicting (Err (send_error.Memory pair))) (inr m) (inr n) = m.4.1 ∙ sym n.4.1
  same_state old new other handed others TryRecv (answer.TryRecv (Ok pair)) m n =
      m.1.1 ∙ ap (λ (left : List (T × P)). after old (GoesOut left)) (one_greatest o old.pending pair pair new.pending other.pending m.0 n.0).1 ∙ sym n.1.1
  same_state old new other handed others TryRecv (answer.TryRecv (Err recv_error.Closed)) m n = m.2.1 ∙ sym n.2.1
  same_state old new other handed others TryRecv (answer.TryRecv (Err recv_error.Empty)) m n = m.2.1 ∙ sym n.2.1
  same_state old new other handed others Close (answer.Close true) m n = m.1.1 ∙ sym n.1.1
  same_state old new other handed others Close (answer.Close false) m n = m.1.1 ∙ sym n.1.1
  same_state old new other handed others IsClosed (answer.IsClosed told) m n = m.1.1 ∙ sym n.1.1
  same_state old new other handed others IsEmpty (answer.IsEmpty told) m n = m.1.1 ∙ sym n.1.1
  same_state old new other handed others IsFull (answer.IsFull told) m n = m.1.1 ∙ sym n.1.1
  same_state old new other handed others Len (answer.Len told) m n = m.1.1 ∙ sym n.1.1
  same_state old new other handed others _ _ m n = absurd m

  same_step : (entry : Entry T P) (made again : Operation T P (Unit {0})) (old new other : Machine T P) → Records entry made → Records entry again
      → Step cmp (λ waker kept. kept ≡ waker) old made.call made.answer made.handed new
      → Step cmp (λ waker kept. kept ≡ waker) old again.call again.answer again.handed other → new ≡ other
  same_step entry made again old new other one two step next =
      let m : Goes old entry.call made.answer made.handed new =
      subst (λ call. Moves cmp (λ waker kept. kept ≡ waker) old call made.answer made.handed new) one.0 step.moves in
      let n : Goes old entry.call again.answer again.handed other =
      subst (λ call. Moves cmp (λ waker kept. kept ≡ waker) old call again.answer again.handed other) two.0 next.moves in
      let told : again.answer ≡ made.answer =
      sym (same_answer old new other made.handed again.handed entry.call made.answer again.answer entry.reply m n one.1 two.1) in
      same_state old new other made.handed again.handed entry.call made.answer m
      (subst (λ reply. Goes old entry.call reply again.handed other) told n)

  same_end : (history : List (Entry T P)) (run again : List (Operation T P (Unit {0}))) (old new other : Machine T P)
      → AllZip Records history run → AllZip Records history again
      → Run cmp (λ waker kept. kept ≡ waker) old run new → Run cmp (λ waker kept. kept ≡ waker) old again other → new ≡ other
  same_end [] [] [] old new other one two r s = r ∙ sym s
  same_end (entry ∷ history) (made ∷ run) (next ∷ again) old new other one two r s =
      let mid : s.0 ≡ r.0 = sym (same_step entry made next old r.0 s.0 one.0 two.0 r.1 s.1) in
      same_end history run again r.0 new other one.1 two.1 r.2
      (subst (λ (state : Machine T P). Run cmp (λ waker kept. kept ≡ waker) state again other) mid s.2)
  same_end history run again old new other one two r s = absurd (assumption)

  pub one_state : (capacity : ℕ) (history : List (Entry T P)) (state other : Machine T P)
      → IsHistory cmp capacity history state → IsHistory cmp capacity history other → state ≡ other
  one_state capacity history state other one two =
      same_end history one.run two.run (opening capacity true) state other one.records two.records one.leads two.leads
