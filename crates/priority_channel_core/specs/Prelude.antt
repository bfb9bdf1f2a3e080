-- The names that contracts and proofs cite, passed on from one place. Declares nothing.
pub use Rattle.priority_channel_core.specs.Errors.{batch_error_for, recv_fault_text, refusal_for, rest_of, send_fault_debug, send_fault_text, try_recv_error_text, try_recv_many_error_text, try_send_error_debug, try_send_error_text, unsent}
pub use Rattle.priority_channel_core.specs.Waiters.{enlist, Enlists, HasOwnTickets, no_waiters, on_side, search_bound, unlist, Waiters}
pub use Rattle.priority_channel_core.specs.Waiting.{fresh, is_given_listed, is_listed, IsListing, IsRising, listing, Listing, with_waker, without, without_given}
pub use Rattle.priority_channel_core.specs.Word.{bit_at, closed_bit, count_below, CountedWord, Word}
pub use Rattle.priority_channel_core.specs.code.Allowed.{AllowsRun, AllowsSide, ChangesCount, ChangesHandles, count_after, DropsFindHandles, IsAllowed}
pub use Rattle.priority_channel_core.specs.code.Answers.{SameAnswer}
pub use Rattle.priority_channel_core.specs.code.Calls.{AtSomePlace, Makes, MayCall, Performs, Response, RunsFront, SameButPlace, SameCall, SameOperation, SamePoll, SameReply}
pub use Rattle.priority_channel_core.specs.code.Channel.{ComparesAtMost, CountedState, IsBlocked, IsSound, search_for_least, state_of}
pub use Rattle.priority_channel_core.specs.code.Front.{AddsFront, HasEnded, HasMore, MovesFront, PollsFront, SendsFront, sent_before, StopsFor}
pub use Rattle.priority_channel_core.specs.code.Lists.{HasList}
pub use Rattle.priority_channel_core.specs.code.Many.{in_turn, Placed, receives, ReceivesInTurn, takes, TakesInTurn}
pub use Rattle.priority_channel_core.specs.code.Replies.{kept_by, OnFull, OnMemory, OnMemoryFault, waits_under}
pub use Rattle.priority_channel_core.specs.code.Room.{HasMemory, HasNumber, HasRoom, IsFull, SomeBelow}
pub use Rattle.priority_channel_core.specs.code.Tests.{AddsSome, AllMeetTests, MeetsTest}
pub use Rattle.priority_channel_core.specs.Types.{Ordering, SendReply, SendEnd, SendPoll, RecvReply, RecvEnd, RecvPoll, LeaseReply, Answer, Call, CorePoll, Pending, Ready, RecvError, RecvFault, SendFault, TryRecvError, TryRecvManyError, TrySendError, Closed, Full, Memory, Side, Message, Room}
pub use Rattle.priority_channel_core.specs.declared.channel.bulk.Stop.{Stop}
pub use Rattle.priority_channel_core.specs.machine.Change.{after, Change, Does, moved, shuts, wakes_receivers, wakes_senders, woken}
pub use Rattle.priority_channel_core.specs.machine.Good.{IsGood}
pub use Rattle.priority_channel_core.specs.machine.Polls.{Ends, Polls, recv_answer, send_answer}
pub use Rattle.priority_channel_core.specs.machine.Run.{Operation, Run}
pub use Rattle.priority_channel_core.specs.machine.Says.{Answers, Calls, capacity_told, Clones, Says}
pub use Rattle.priority_channel_core.specs.machine.Sends.{as_list, Evicts, Sends}
pub use Rattle.priority_channel_core.specs.machine.State.{Handed, is_done, IsGoingOn, IsOver, nobody, opening, room, settled, State, used}
pub use Rattle.priority_channel_core.specs.machine.Step.{Moves, Step}
