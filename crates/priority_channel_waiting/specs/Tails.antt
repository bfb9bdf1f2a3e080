-- The rest of a bulk send's list, over any number of attempts.
use Rattle.std.proofs.Common.{drop-drop, subst, ◌+◌, List, drop}
use Rattle.priority_channel_waiting.specs.Holding.{HoldsTail}

module _ {X M : Type 0} (holds : M → List X → Type 0) where
  pub tail_of_itself : (msgs : M) → HoldsTail holds msgs msgs
  tail_of_itself msgs = record { at = λ list has. (0, has) }

  pub tail_of_tail : (first mid last : M) → HoldsTail holds first mid → HoldsTail holds mid last
      → HoldsTail holds first last
  tail_of_tail first mid last h k = record {
    at = λ list has.
        let one = h.at list has in
        let other = k.at (drop one.0 list) one.1 in (
          one.0 + other.0,
          subst (λ (l : List X). holds last l) (drop-drop other.0 one.0 list) other.1,
        );
  }
