-- What a bulk send of the pairs that C gives is.
use Rattle.std.proofs.Common.{◌≡◌, ◌+◌, ℕ, false, List, ◌∷◌, length, map, refl, sym, ap, ◌∙◌, subst, Option, None, Ok, Err}
use Rattle.std.proofs.iter.Yields.{listed}
use Rattle.std.specs.Iterator.{AlwaysYields}
use Rattle.std.specs.Iterator.Adapters.{peekable_peeked, peekable_source}
use Rattle.std.specs.declared.iter.Ahead.{Ahead}
use Rattle.priority_channel_core.specs.Prelude.{SendReply, Performs, HasList, Handed, SameReply}
use Rattle.priority_channel_core.specs.declared.calls.Call.TheVariants as call
use Rattle.priority_channel_core.specs.declared.calls.Answer.TheVariants as answer
use Rattle.priority_channel_core.specs.declared.errors.TrySendError.TheVariants.{Full, Closed, Memory}
use Rattle.priority_channel_core.proofs.Lists.{list_from_source}
use Rattle.priority_channel_c.specs.declared.bulk.Given.{Given}
use Rattle.priority_channel_c.specs.declared.bulk.Pair.{Pair}
use Rattle.priority_channel_c.specs.declared.priority.Priority.{Priority}
use Rattle.priority_channel_c.specs.declared.reply.Reply.{Reply}
use Rattle.priority_channel_c.specs.declared.state.Core.{Core}
use Rattle.priority_channel_c.specs.Bulk.{MakesMany, GivesPair, as_pair}
use Rattle.priority_channel_c.specs.Codes.{number, reply_code}
use Rattle.priority_channel_c.specs.Priority.{priority_cmp}
use Rattle.priority_channel_c.specs.Replies.{Steps, has_waiters, same_waker}

abbrev pub gives : Given → Option (ℕ × Priority) → Given → Type 0
gives s r t = GivesPair s.pairs.now r t.pairs.now

abbrev shown : Given → List (ℕ × Priority)
shown s = map as_pair s.pairs.now

gives_shown : (s : Given) → AlwaysYields gives (λ x. x) s (shown s)
gives_shown = listed gives (λ x. x) shown (λ s t none. ap (λ xs. length (map as_pair xs)) none.0)
    (λ s x t some. ap (map as_pair) some.1 ∙ ap (λ y. y ∷ shown t) (sym some.2))

pub given_list : (msgs : Ahead Given (ℕ × Priority)) (given : List Pair) → peekable_peeked msgs ≡ None → (peekable_source msgs).pairs.now ≡ given → HasList gives msgs (map as_pair given)
given_list msgs given unpeeked is = list_from_source gives msgs (map as_pair given) unpeeked
    (subst (λ xs. AlwaysYields gives (λ x. x) (peekable_source msgs) (map as_pair xs)) is (gives_shown (peekable_source msgs)))

same_code : {M T P : Type 0} (holds : M → List (T × P) → Type 0) (reply : SendReply M) (part : SendReply (List (T × P))) → SameReply holds reply part → reply_code part ≡ reply_code reply
same_code holds (Ok done) part same = ap reply_code same
same_code holds (Err (Closed m)) part same = ap reply_code same.1
same_code holds (Err (Full m)) part same = ap reply_code same.1
same_code holds (Err (Memory m)) part same = ap reply_code same.1

module _ {given : List Pair} {accepted : ℕ} {told : Reply} {old new : Core} {handed : Handed ℕ} (msgs : Ahead Given (ℕ × Priority)) (reply : SendReply (Ahead Given (ℕ × Priority))) where
  pub makes_many : Performs (HasList gives) priority_cmp same_waker old.channel.state (call.TrySendv msgs) (answer.TrySendv reply) handed new.channel.state
      → HasList gives msgs (map as_pair given) → told.code ≡ number (reply_code reply) → new.due ≡ handed
      → new.channel.state.accepted ≡ old.channel.state.accepted + accepted → has_waiters old.due ≡ false → told.has_due ≡ has_waiters new.due
      → MakesMany given accepted told old new
  makes_many performs list code kept counted empty due =
      let at = performs.at (call.TrySendv (map as_pair given)) (map as_pair given, refl, list) in
      let part = at.1.0 in
      record {
        step = λ _. (
          part,
          subst (λ h. Steps old (call.TrySendv (map as_pair given)) (answer.TrySendv part) h new) (sym kept)
              (subst (λ a. Steps old (call.TrySendv (map as_pair given)) a handed new) at.1.1 at.2),
          record { code = code ∙ ap number (sym (same_code (HasList gives) reply part at.1.2)); pair = tt; ticket = tt },
        );
        counted = counted;
        put_off = λ some. absurd (cc);
        due = due;
      }
