-- The pairs of a bulk send: those of a vector's iterator that may have been peeked.
use Rattle.std.specs.Prelude.{List, [], ◌∷◌, Option, Some, None, Ok, Err}
use Rattle.std.specs.declared.vec.IntoIter.{IntoIter}
use Rattle.std.specs.declared.iter.Ahead.{Ahead}
use Rattle.std.specs.Vec.Iter.{into_iter_items}
use Rattle.priority_channel_core.specs.declared.calls.CorePoll.TheVariants.{Ready, Pending}
use Rattle.priority_channel_core.specs.declared.errors.TrySendError.TheVariants.{Full, Closed, Memory}
use Rattle.priority_channel_core.specs.declared.errors.SendFault.TheVariants as send
use Rattle.priority_channel_core.specs.Prelude.{SendReply, SendPoll}

-- a vector's iterator that may have been peeked
abbrev pub Items : Type 0 → Type 0 → Type 0
Items X Z = Ahead (IntoIter X Z) X

-- all that is given if this was peeked, and these items stand behind it
abbrev pub behind : {X : Type 0} → Option (Option X) → List X → List X
behind None items = items
behind (Some None) items = []
behind (Some (Some x)) items = x ∷ items

module _ {X Z : Type 0} where
  -- all that the iterator still gives
  abbrev pub list_in : Items X Z → List X
  list_in msgs = behind msgs.peeked (into_iter_items msgs.iter)

  -- the machine's reply to a bulk send, with lists in place of iterators
  abbrev pub listed : SendReply (Items X Z) → SendReply (List X)
  listed (Ok done) = Ok tt
  listed (Err (Closed rest)) = Err (Closed (list_in rest))
  listed (Err (Full rest)) = Err (Full (list_in rest))
  listed (Err (Memory rest)) = Err (Memory (list_in rest))

  -- the machine's answer to its poll
  abbrev pub listed_poll : SendPoll (Items X Z) → SendPoll (List X)
  listed_poll (Ready (Ok done)) = Ready (Ok tt)
  listed_poll (Ready (Err (send.Closed e))) = Ready (Err (send.Closed (record { 0 = list_in e.0 })))
  listed_poll (Ready (Err (send.Memory rest))) = Ready (Err (send.Memory (list_in rest)))
  listed_poll (Pending rest ticket) = Pending (list_in rest) ticket
