-- A step with its reply, put together.
use Rattle.std.proofs.Common.{◌≡◌, ℕ, false, subst, sym}
use Rattle.priority_channel_core.specs.Prelude.{Calls, Answers, Handed, nobody}
use Rattle.priority_channel_c.specs.declared.priority.Priority.{Priority}
use Rattle.priority_channel_c.specs.declared.reply.Reply.{Reply}
use Rattle.priority_channel_c.specs.declared.state.Core.{Core}
use Rattle.priority_channel_c.specs.Keys.{Meaning, MakesMeant, MakesMeantQuietly}
use Rattle.priority_channel_c.specs.Replies.{Makes, MakesQuietly, Steps, Tells, has_waiters}

module _ {made : Calls ℕ Priority ℕ} {told : Reply} {old new : Core} (answer : Answers ℕ Priority) where
  -- whoever was woken is due, where nobody was
  pub makes : {handed : Handed ℕ} → Steps old made answer handed new → new.due ≡ handed → Tells answer told → has_waiters old.due ≡ false → told.has_due ≡ has_waiters new.due → Makes made told old new
  makes step kept tells empty due = record {
    step = λ _. (answer, subst (λ h. Steps old made answer h new) (sym kept) step, tells);
    put_off = λ some. absurd (cc);
    due = due;
  }

  -- the same, where the call that is meant is equal to the one that was made
  pub makes_equal : {given : Calls ℕ Priority ℕ} {handed : Handed ℕ} → made ≡ given → Steps old given answer handed new → new.due ≡ handed → Tells answer told → has_waiters old.due ≡ false → told.has_due ≡ has_waiters new.due → Makes made told old new
  makes_equal {handed} same step = makes (subst (λ call. Steps old call answer handed new) (sym same) step)

  pub quietly : Steps old made answer nobody new → Tells answer told → new.due ≡ old.due → told.has_due ≡ has_waiters new.due → MakesQuietly made told old new
  quietly step tells kept due = record { answer = answer; step = step; tells = tells; kept = kept; due = due }

module _ {means : Meaning} {told : Reply} {old new : Core} (made : Calls ℕ Priority ℕ) (answer : Answers ℕ Priority) where
  pub makes_meant : {handed : Handed ℕ} → Steps old made answer handed new → new.due ≡ handed → Tells answer told → means old.channel.state.pending made answer new.channel.state.pending → has_waiters old.due ≡ false → told.has_due ≡ has_waiters new.due → MakesMeant means told old new
  makes_meant step kept tells meant empty due = record {
    step = λ _. (made, answer, subst (λ h. Steps old made answer h new) (sym kept) step, tells, meant);
    put_off = λ some. absurd (cc);
    due = due;
  }

  pub quietly_meant : Steps old made answer nobody new → Tells answer told → means old.channel.state.pending made answer new.channel.state.pending → new.due ≡ old.due → told.has_due ≡ has_waiters new.due → MakesMeantQuietly means told old new
  quietly_meant step tells meant kept due = record { made = made; answer = answer; step = step; tells = tells; meant = meant; kept = kept; due = due }
