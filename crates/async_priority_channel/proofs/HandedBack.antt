-- What a future gives back is left of what it kept, also if its second poll answers.
use Rattle.std.proofs.Common.{◌≡◌, Option, None, Some, IfSome, is_some}
use Rattle.futures.specs.declared.task.Poll.{Poll}
use Rattle.futures.specs.declared.task.Poll.TheVariants as poll
use Rattle.futures.specs.Poll.{IfReady}
use Rattle.priority_channel_waiting.specs.Holding.{Holding, IsRestOf}

module _ {K R : Type 0} (can : K → Type 0) (leaves : K → K → Type 0)
    (still : (first next last : K) → leaves first next → leaves next last → leaves first last)
    (back : R → Option K) where
  abbrev IsLeft : Option K → Option K → Type 0
  IsLeft kept left = IfSome kept (λ k. IfSome left (λ rest. can rest × leaves k rest))

  pub later : (first mid last : Option K) → is_some mid ≡ is_some first → IsLeft first mid → IsLeft mid last → IsLeft first last
  later None mid last some h k = tt
  later (Some first) None last some h k = absurd (cc)
  later (Some first) (Some mid) None some h k = tt
  later (Some first) (Some mid) (Some last) some h k = (k.0, still first mid last h.1 k.1)

  abbrev GivesBack : Holding K → R → Type 0
  GivesBack kept answer = IsRestOf can leaves kept (back answer)

  pub hands_back_after : (old mid : Holding K) (polled : Poll R) → is_some mid.kept ≡ is_some old.kept → IsRestOf can leaves old mid.kept
      → IfReady polled (GivesBack mid) → IfReady polled (GivesBack old)
  hands_back_after old mid (poll.Ready answer) waits left h = later old.kept mid.kept (back answer) waits left h
  hands_back_after old mid poll.Pending waits left h = tt
