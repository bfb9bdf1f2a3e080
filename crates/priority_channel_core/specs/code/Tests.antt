-- What a test told of the pair that was taken out or leased, or whose priority was changed, or of
-- all pairs where there was none.
use Rattle.std.specs.Prelude.{◌≡◌, List, [], ◌∷◌, ⊤, All, Some, None, Ok, Err}
use Rattle.priority_channel_core.specs.bag.Prelude.{Changes, PassesFirst}
use Rattle.priority_channel_core.specs.Types.{Call, Answer, Ordering}
use Rattle.priority_channel_core.specs.declared.calls.Call.TheVariants.{TrySendv, TakeWhere, ChangePriority, PollSendv, LeaseWhere}
use Rattle.priority_channel_core.specs.machine.State.{State, Handed}
use Rattle.priority_channel_core.specs.code.Calls.{Makes, Response}
use Rattle.priority_channel_core.specs.code.Front.{AddsFront, PollsFront}

-- a bulk send only added some pairs, whether or not its iterator has one list
abbrev pub AddsSome : {T P W M F : Type 0} → (W → W → Type 0) → State T P W → Call T P W M F
    → Handed W → State T P W → Type 0
AddsSome {T} {P} is_clone old (TrySendv msgs) handed new =
    (front : List (T × P)) × AddsFront old front handed new
AddsSome {T} {P} is_clone old (PollSendv msgs given waker) handed new =
    (front : List (T × P)) × PollsFront is_clone old given waker front handed new
AddsSome is_clone old made handed new = ⊤

module _ {T P W M F : Type 0} (passes fails : F → T × P → Type 0) where
  -- a call, and the pending pairs before it and after it
  pub record MeetsTest (old : List (T × P)) (made : Call T P W M F) (reply : Answer T P M)
      (new : List (T × P)) : Type 0 where
    pub taken : (test : F) (pair : T × P) → made ≡ TakeWhere test
        → reply ≡ Answer.TakeWhere (Some pair) → passes test pair
    pub none_taken : (test : F) → made ≡ TakeWhere test → reply ≡ Answer.TakeWhere None
        → All (fails test) old
    pub changed : (test : F) (priority was : P) → made ≡ ChangePriority test priority
        → reply ≡ Answer.ChangePriority (Ok was)
        → (change : Changes old was priority new) × PassesFirst (passes test) (fails test) change
    pub none_changed : (test : F) (priority back : P) → made ≡ ChangePriority test priority
        → reply ≡ Answer.ChangePriority (Err back) → All (fails test) old
    pub leased : (test : F) (pair : T × P) → made ≡ LeaseWhere test
        → reply ≡ Answer.LeaseWhere (Ok (Some pair)) → passes test pair
    pub none_leased : (test : F) → made ≡ LeaseWhere test → reply ≡ Answer.LeaseWhere (Ok None)
        → All (fails test) old

  module _ (holds : M → List (T × P) → Type 0) (cmp : P → P → Ordering)
      (is_clone : W → W → Type 0) where
    -- of each call that was made, in turn, with what a bulk send added
    abbrev pub AllMeetTests : State T P W → List (Call T P W M F) → List (Response T P W M)
        → State T P W → Type 0
    AllMeetTests old calls [] new = new ≡ old
    AllMeetTests old [] (response ∷ done) new = ⊥
    AllMeetTests old (made ∷ calls) (response ∷ done) new =
        (mid : State T P W)
        × Makes holds cmp is_clone old made response.answer response.handed mid
        × AddsSome is_clone old made response.handed mid
        × MeetsTest old.pending made response.answer mid.pending
        × AllMeetTests mid calls done new
