-- The loop of a bulk send, one more pair at a time.
use Rattle.std.proofs.lemmas.List.{nil_from_length}
use Rattle.std.proofs.Common.{◌≡◌, ℕ, ◌+◌, ◌<◌, ◌≤◌, List, [], ◌∷◌, ◌++◌, length, sym, ap, ◌∙◌, arith, append_assoc, length-append, Option, Some, Bool, true, false, IsTrue, ◌↔◌}
use Rattle.std.specs.Iterator.Adapters.{peekable_steps}
use Rattle.std.specs.declared.iter.Ahead.{Ahead}
use Rattle.priority_channel_core.specs.bag.Prelude.{Contents}
use Rattle.priority_channel_core.specs.Prelude.{HasList, State, Handed, HasMore, HasEnded, MovesFront, SendsFront, StopsFor, sent_before, Stop}
use Rattle.priority_channel_core.specs.code.Front.{Takes}
use Rattle.priority_channel_core.proofs.Lists.{list_at_some}

module _ {S X : Type 0} {steps : S → Option X → S → Type 0} where
  pub takes_peeked : {msgs left : Ahead S X} {front : List X} (peeked : Ahead S X) → Takes steps msgs front left
      → ((list : List X) → HasList steps left list → HasList steps peeked list) → Takes steps msgs front peeked
  takes_peeked peeked takes same =
      record { at = λ list has. let k = takes.at list has in (k.0, k.1, same k.0 k.2) }

  -- what the answer of a peek means
  pub more_left : (msgs : Ahead S X) (answer : Bool)
      → ((list : List X) → HasList steps msgs list → (IsTrue answer ↔ (0 < length list))) → answer ≡ true → HasMore steps msgs
  more_left msgs answer tells e = record { at = λ list has. (tells list has).0 e }

  pub none_left : (msgs : Ahead S X) (answer : Bool)
      → ((list : List X) → HasList steps msgs list → (IsTrue answer ↔ (0 < length list))) → answer ≡ false → HasEnded steps msgs
  none_left msgs answer tells e =
      record { at = λ list has. let t = tells list has in nil_from_length list (grind arith) }

module _ {S T P : Type 0} {steps : S → Option (T × P) → S → Type 0} where
  pub moved_more : {old mid : Contents T P} {msgs left : Ahead S (T × P)} {n : ℕ} (new : Contents T P) (peeked more : Ahead S (T × P))
      (pair : T × P) → MovesFront steps old msgs n mid left
      → ((list : List (T × P)) → HasList steps left list → HasList steps peeked list) → peekable_steps steps peeked (Some pair) more
      → new.pending ≡ mid.pending ++ pair ∷ [] → MovesFront steps old msgs (n + 1) new more
  moved_more {old} {mid} {msgs} {left} {n} new peeked more pair moved same next e = record {
    front = moved.front ++ pair ∷ [];
    pending = e ∙ ap (λ l. l ++ pair ∷ []) moved.pending ∙ append_assoc old.pending moved.front (pair ∷ []);
    long = omega (arith, length-append moved.front (pair ∷ []), moved.long);
    takes = record {
      at = λ list has.
          let k = moved.takes.at list has in
          let j = list_at_some more pair (same k.0 k.2) next in
          (j.0, k.1 ∙ ap (λ l. moved.front ++ l) j.1 ∙ sym (append_assoc moved.front (pair ∷ []) j.0), j.2);
    };
  }

module _ {S X : Type 0} (steps : S → Option X → S → Type 0) where
  pub sent_within : (is_refused : ℕ → Type 0) (room : ℕ) (stop : Stop) (left : Ahead S X) → StopsFor steps is_refused room stop left → sent_before stop ≤ room
  sent_within is_refused room stop left stops = grind arith

  -- the same stop, if one refusal implies another
  pub stops_for : (was is_refused : ℕ → Type 0) (room : ℕ) (stop : Stop) (left : Ahead S X)
      → (sent_before stop < room → was (sent_before stop) → is_refused (sent_before stop))
      → StopsFor steps was room stop left → StopsFor steps is_refused room stop left
  stops_for was is_refused room stop left means stops = grind arith

pub sent_peeked : {S T P W : Type 0} {steps : S → Option (T × P) → S → Type 0} {old new : State T P W} {handed : Handed W} {msgs left : Ahead S (T × P)} {n : ℕ}
    (peeked : Ahead S (T × P)) → SendsFront steps old msgs n handed new left
    → ((list : List (T × P)) → HasList steps left list → HasList steps peeked list) → SendsFront steps old msgs n handed new peeked
sent_peeked peeked sent same =
    record { front = sent.front; long = sent.long; takes = takes_peeked peeked sent.takes same; adds = sent.adds }
