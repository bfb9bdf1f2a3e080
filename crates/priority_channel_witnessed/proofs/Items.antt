-- The list of a vector's iterator that may have been peeked.
use Rattle.std.proofs.Common.{◌≡◌, ◌+◌, ◌≤◌, ℕ, List, [], ◌∷◌, length, refl, sym, ap, ◌∙◌, subst, arith, Option, Some, None, Ok, Err}
use Rattle.std.specs.declared.vec.IntoIter.{IntoIter}
use Rattle.std.specs.Vec.Iter.{into_iter_steps, into_iter_items, into_iter_len}
use Rattle.std.specs.Iterator.{AlwaysYields}
use Rattle.std.specs.Iterator.Adapters.{peekable_steps}
use Rattle.std.specs.VecDeque.Ownership.{in_place}
use Rattle.priority_channel_core.specs.declared.errors.TrySendError.TheVariants.{Full, Closed, Memory}
use Rattle.priority_channel_core.specs.declared.calls.CorePoll.TheVariants.{Ready, Pending}
use Rattle.priority_channel_core.specs.Prelude.{State, Handed, Step, Answers, HasList, SameReply, SamePoll, Performs, Ordering, SendReply, SendPoll}
use Rattle.priority_channel_core.specs.declared.errors.SendFault.TheVariants as send
use Rattle.priority_channel_core.specs.declared.calls.Call.TheVariants as call
use Rattle.priority_channel_core.specs.declared.calls.Answer.TheVariants as answer
use Rattle.priority_channel_core.proofs.Lists.{list_at_none, list_at_some, list_from_source}
use Rattle.priority_channel_witnessed.specs.Items.{Items, behind, list_in, listed, listed_poll}

module _ {X Z : Type 0} where
  abbrev Has : Items X Z → List X → Type 0
  Has msgs list = HasList (into_iter_steps {X = X} {Z = Z}) msgs list

  -- an iterator with these items, which are no more than those of another
  abbrev with_items : (it : IntoIter X Z) (items : List X) → length items ≤ into_iter_len it → IntoIter X Z
  with_items it items fits = record it {
    rest = record it.rest {
      len = length items;
      head = 0;
      wrapped = 0;
      items = items;
      ok = (refl, omega arith);
      small = (it.rest.small.0, omega (arith, it.rest.small.1, fits));
      ring_fits = in_place (length items) it.rest.cap 0 0 (omega arith, (omega (arith, it.rest.small.1, fits), omega arith));
    };
  }

  abbrev unpeeked : IntoIter X Z → Items X Z
  unpeeked it = record { iter = it; peeked = None }

  -- a call where nothing was peeked, and one where something was
  goes : (m : Items X Z) (r : Option X) (after : IntoIter X Z) → m.peeked ≡ None → into_iter_steps m.iter r after → peekable_steps into_iter_steps m r (unpeeked after)
  goes m r after e step = (refl, rw e step)

  gives : (m : Items X Z) (o : Option X) → m.peeked ≡ Some o → peekable_steps into_iter_steps m o (unpeeked m.iter)
  gives m o e = (refl, rw e (refl, refl))

  given : (m j : Items X Z) (o r : Option X) → m.peeked ≡ Some o → peekable_steps into_iter_steps m r j → (r ≡ o) × (j.iter ≡ m.iter)
  given m j o r e step = rw e at step.1

  yields : (items : List X) (it : IntoIter X Z) → into_iter_items it ≡ items → AlwaysYields into_iter_steps (λ x. x) it items
  yields [] it is = λ x j step. let e : [] ≡ x ∷ into_iter_items j = sym is ∙ step.0 in absurd (cc)
  yields (y ∷ ys) it is = (
    (λ j step. absurd (omega (arith, step.0, it.rest.ok.0, ap length is))),
    λ x j step. let e : y ∷ ys ≡ x ∷ into_iter_items j = sym is ∙ step.0 in (cc, yields ys j (cc)),
  )

  has_at : (m : Items X Z) (p : Option (Option X)) → m.peeked ≡ p → Has m (behind p (into_iter_items m.iter))
  has_at m None e = list_from_source into_iter_steps m (into_iter_items m.iter) e (yields (into_iter_items m.iter) m.iter refl)
  has_at m (Some None) e = record {
    runs = λ x j step. let k = given m j None (Some x) e step in let i = k.0 in absurd (cc);
  }
  has_at m (Some (Some x)) e = record {
    runs = (
      (λ j step. let k = given m j (Some x) None e step in let i = k.0 in absurd (cc)),
      λ y j step.
          let k = given m j (Some x) (Some y) e step in
          let i = k.0 in
          (cc, (list_from_source into_iter_steps j (into_iter_items m.iter) step.0 (yields (into_iter_items m.iter) j.iter (ap (λ (it : IntoIter X Z). into_iter_items it) k.1))).runs),
    );
  }

  -- it gives its list
  pub has_list : (m : Items X Z) → Has m (list_in m)
  has_list m = has_at m m.peeked refl

  source_is : (items : List X) (m : Items X Z) (list : List X) → m.peeked ≡ None → into_iter_items m.iter ≡ items → Has m list → list ≡ items
  source_is [] m list e is has =
      let none : into_iter_len m.iter ≡ 0 = omega (arith, m.iter.rest.ok.0, ap length is) in
      list_at_none (unpeeked m.iter) has (goes m None m.iter e (none, none))
  source_is (y ∷ ys) m list e is has =
      let long : into_iter_len m.iter ≡ length ys + 1 = omega (arith, m.iter.rest.ok.0, ap length is) in
      let after = with_items m.iter ys (omega (arith, long)) in
      let first = list_at_some (unpeeked after) y has (goes m (Some y) after e (is, omega (arith, long))) in
      first.1 ∙ ap (λ (l : List X). y ∷ l) (source_is ys (unpeeked after) first.0 refl refl first.2)

  list_is_at : (m : Items X Z) (p : Option (Option X)) (list : List X) → m.peeked ≡ p → Has m list → list ≡ behind p (into_iter_items m.iter)
  list_is_at m None list e has = source_is (into_iter_items m.iter) m list e refl has
  list_is_at m (Some None) list e has = list_at_none (unpeeked m.iter) has (gives m None e)
  list_is_at m (Some (Some x)) list e has =
      let first = list_at_some (unpeeked m.iter) x has (gives m (Some x) e) in
      first.1 ∙ ap (λ (l : List X). x ∷ l) (source_is (into_iter_items m.iter) (unpeeked m.iter) first.0 refl refl first.2)

  -- and no other
  list_is : (m : Items X Z) (list : List X) → Has m list → list ≡ list_in m
  list_is m list has = list_is_at m m.peeked list refl has

module _ {T P Z : Type 0} where
  abbrev Holds : Items (T × P) Z → List (T × P) → Type 0
  Holds msgs list = HasList (into_iter_steps {X = T × P} {Z = Z}) msgs list

  reply_is : (reply : SendReply (Items (T × P) Z)) (told : SendReply (List (T × P))) → SameReply Holds reply told → told ≡ listed reply
  reply_is (Ok done) told same = same
  reply_is (Err (Closed m)) told same = same.1 ∙ ap (λ (l : List (T × P)). Err (Closed l)) (list_is m same.0 same.2)
  reply_is (Err (Full m)) told same = same.1 ∙ ap (λ (l : List (T × P)). Err (Full l)) (list_is m same.0 same.2)
  reply_is (Err (Memory m)) told same = same.1 ∙ ap (λ (l : List (T × P)). Err (Memory l)) (list_is m same.0 same.2)

  poll_is : (poll : SendPoll (Items (T × P) Z)) (told : SendPoll (List (T × P))) → SamePoll Holds poll told → told ≡ listed_poll poll
  poll_is (Ready (Ok done)) told same = same
  poll_is (Ready (Err (send.Closed e))) told same =
      same.1 ∙ ap (λ (l : List (T × P)). Ready (Err (send.Closed (record { 0 = l })))) (list_is e.0 same.0 same.2)
  poll_is (Ready (Err (send.Memory m))) told same = same.1 ∙ ap (λ (l : List (T × P)). Ready (Err (send.Memory l))) (list_is m same.0 same.2)
  poll_is (Pending m ticket) told same = same.1 ∙ ap (λ (l : List (T × P)). Pending l ticket) (list_is m same.0 same.2)

  module _ {W : Type 0} (cmp : P → P → Ordering) (is_clone : W → W → Type 0) where
    -- a bulk send of the code is the machine's, of the iterator's list
    pub sends_list : (old new : State T P W) (msgs : Items (T × P) Z) (reply : SendReply (Items (T × P) Z)) (handed : Handed W)
        → Performs Holds cmp is_clone old (call.TrySendv msgs) (answer.TrySendv reply) handed new
        → Step cmp is_clone old (call.TrySendv (list_in msgs)) (answer.TrySendv (listed reply)) handed new
    sends_list old new msgs reply handed performs =
        let k = performs.at (call.TrySendv (list_in msgs)) (list_in msgs, refl, has_list msgs) in
        subst (λ (a : Answers T P). Step cmp is_clone old (call.TrySendv (list_in msgs)) a handed new)
        (k.1.1 ∙ ap (λ (r : SendReply (List (T × P))). answer.TrySendv r) (reply_is reply k.1.0 k.1.2)) k.2

    -- and so is its poll
    pub polls_list : (old new : State T P W) (msgs : Items (T × P) Z) (ticket : Option ℕ) (waker : W) (poll : SendPoll (Items (T × P) Z)) (handed : Handed W)
        → Performs Holds cmp is_clone old (call.PollSendv msgs ticket waker) (answer.PollSendv poll) handed new
        → Step cmp is_clone old (call.PollSendv (list_in msgs) ticket waker) (answer.PollSendv (listed_poll poll)) handed new
    polls_list old new msgs ticket waker poll handed performs =
        let k = performs.at (call.PollSendv (list_in msgs) ticket waker) (list_in msgs, refl, has_list msgs) in
        subst (λ (a : Answers T P). Step cmp is_clone old (call.PollSendv (list_in msgs) ticket waker) a handed new)
        (k.1.1 ∙ ap (λ (p : SendPoll (List (T × P))). answer.PollSendv p) (poll_is poll k.1.0 k.1.2)) k.2
