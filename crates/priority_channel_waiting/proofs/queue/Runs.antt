-- Calls of the core by anybody, and any number of events.
use Rattle.std.proofs.Common.{◌≡◌, ◌≢◌, ℕ, ◌⊎◌, Bool, true, false, List, [], ◌∷◌, ◌++◌, refl, ap, sym, ◌∙◌, inl, inr, arith, Option, Some, None, slice_get}
use Rattle.std.proofs.lemmas.List.Folds.{list_any-append}
use Rattle.priority_channel_core.specs.declared.side.Side.{Side}
use Rattle.priority_channel_core.specs.declared.side.Side.TheVariants.{Room, Message}
use Rattle.priority_channel_core.specs.Prelude.{Waiters, on_side, State, Handed, IsGood, Moves, Calls, Answers, Ordering}
use Rattle.priority_channel_waiting.specs.Future.{Tasks, Futures, ticket_of}
use Rattle.priority_channel_waiting.specs.Future.Task.{Send, Sendv, Recv}
use Rattle.priority_channel_core.specs.declared.calls.Call.TheVariants as call
use Rattle.priority_channel_core.specs.declared.calls.Answer.TheVariants as answer
use Rattle.priority_channel_waiting.specs.laws.WaitingLaw.{waker_of, side_of}
use Rattle.priority_channel_core.proofs.runs.Hands.{Hands, handed_of, hands}
use Rattle.priority_channel_waiting.proofs.worlds.Lookups.{waker_of-relisted, waker_of-below}
use Rattle.priority_channel_waiting.proofs.worlds.Events.{can_go_on}
use Rattle.priority_channel_waiting.proofs.worlds.PollEnds.{unlist_side, Ended, Waits, poll_end, still_given, stays_or_leaves}
use Rattle.priority_channel_waiting.proofs.worlds.Positions.{all_at, mapped_at}
use Rattle.priority_channel_waiting.proofs.worlds.Standings.{gone, Keeps-none, same_side}
use Rattle.priority_channel_waiting.specs.laws.Threads.{Phase, Thread, ThreadWorld, wake, IsUnused}
use Rattle.priority_channel_waiting.specs.laws.Threads.Phase.{Outside}
use Rattle.priority_channel_waiting.specs.laws.ThreadEvents.{ThreadEvent, given_to, LeadsTo}
use Rattle.priority_channel_waiting.specs.laws.ThreadEvents.ThreadEvent.{Makes, Does}
use Rattle.priority_channel_waiting.specs.laws.QueueLaw.{number_of, asleep_at, SomeSpin, NobodySleepsOn}
use Rattle.priority_channel_waiting.proofs.queue.Kept.{lead_of, asleep_number, found, standing_by, futures_of, lists_of, own, head_of, woken}
use Rattle.priority_channel_waiting.proofs.queue.Acts.{has_waiter, IsAttended, SeenIn, watched_wake, act_kept}

listed_waiter : (xs : List (ℕ × ℕ)) (t v : ℕ) → waker_of t xs ≡ Some v → has_waiter v xs ≡ true
listed_waiter [] t v h = absurd (cc)
listed_waiter (x ∷ xs) t v h = grind (arith, listed_waiter xs t v)

-- the waiters that a call returns on a side are woken
woke_side : (side : Side) (handed : Handed ℕ) (v : ℕ) → has_waiter v (handed_of side handed) ≡ true → has_waiter v (handed.room ++ handed.message) ≡ true
woke_side Room handed v h = grind (arith, list_any-append)
woke_side Message handed v h = grind (arith, list_any-append)

module _ {T P : Type 0} (cmp : P → P → Ordering) (old new : State T P ℕ) (handed : Handed ℕ) (good : IsGood old) where
  -- a call empties whole lists, and then changes them at its own ticket alone
  record Lands (given : Option ℕ) : Type 0 where
    mid : State T P ℕ
    handing : Hands old mid handed
    after : (side : Side) (t v : ℕ) → given ≢ Some t → waker_of t (on_side side mid.waiters) ≡ Some v → waker_of t (on_side side new.waiters) ≡ Some v

  poll_lands : (task : Tasks T P) (future : Futures T P ℕ) (given : Option ℕ) (waker : ℕ)
      → Ended old given future handed new ⊎ Waits (λ waker kept. kept ≡ waker) old given waker (side_of task) future handed new → Lands given
  poll_lands task future given waker (inl e) = record {
    mid = e.mid;
    handing = e.handing;
    after = λ side t v ne h. ap (λ (w : Waiters ℕ). waker_of t (on_side side w)) e.left
        ∙ (ap (waker_of t) (unlist_side given side e.mid.waiters) ∙ (gone (on_side side e.mid.waiters) given t ne ∙ h));
  }
  poll_lands task future given waker (inr w) = record {
    mid = w.mid;
    handing = w.handing;
    after = λ side t v ne h.
        elim (same_side side (side_of task)) [
          | inl e ↦
              let xs = on_side (side_of task) w.mid.waiters in
              let here : waker_of t xs ≡ Some v = rw e at h in
              let below = still_given old w.mid handed w.handing good (side_of task) in
              rw e (ap (waker_of t) w.mine ∙ (waker_of-relisted xs given w.kept w.mid.waiters.next_ticket t below ne (waker_of-below xs _ t v below here) ∙ here))
          | inr n ↦ ap (waker_of t) (w.others side n) ∙ h
        ];
  }

  direct : (given : Option ℕ) → Hands old new handed → Lands given
  direct given h = record { mid = new; handing = h; after = λ side t v ne w. w }

  lands : (made : Calls T P ℕ) (reply : Answers T P) → Moves cmp (λ waker kept. kept ≡ waker) old made reply handed new → Lands (given_to made)
  lands (call.PollSend msg priority given waker) reply h = poll_lands (Send msg priority) _ given waker (poll_end cmp (λ waker kept. kept ≡ waker) old new handed given waker (Send msg priority) reply h)
  lands (call.PollSendv pairs given waker) reply h = poll_lands (Sendv pairs) _ given waker (poll_end cmp (λ waker kept. kept ≡ waker) old new handed given waker (Sendv pairs) reply h)
  lands (call.PollRecv given waker) reply h = poll_lands Recv _ given waker (poll_end cmp (λ waker kept. kept ≡ waker) old new handed given waker Recv reply h)
  lands (call.GiveUp ticket) answer.GiveUp h = record {
    mid = old;
    handing = let e = h.0 in rw e (record { room = inl (refl, refl); message = inl (refl, refl); next = refl });
    after = λ side t v ne w. ap (λ (s : State T P ℕ). waker_of t (on_side side s.waiters)) h.1
        ∙ (ap (waker_of t) (unlist_side (Some ticket) side old.waiters) ∙ (gone (on_side side old.waiters) (Some ticket) t ne ∙ w));
  }
  lands (call.GiveUp ticket) reply h = absurd h
  lands made reply h = direct None (hands old new handed cmp (λ waker kept. kept ≡ waker) made reply tt h)

module _ {T P : Type 0} where
  -- the waiters on the wakes are woken, and then the lists may change at the tickets of others
  handed_out : (old : ThreadWorld T P) (a : IsAttended old) (mid s : State T P ℕ) (handed : Handed ℕ) → Hands old.state mid handed → IsGood s
      → ((t v : ℕ) → old.line.ticket ≡ Some t → waker_of t (on_side old.side mid.waiters) ≡ Some v → waker_of t (on_side old.side s.waiters) ≡ Some v)
      → IsAttended (record old { state = s; threads = wake (handed.room ++ handed.message) old.threads })
  handed_out old a mid s handed h good after =
      let ws = handed.room ++ handed.message in
      let now : ThreadWorld T P = record old { state = s; threads = wake ws old.threads } in
      record {
        good = good;
        queue = woken a.queue ws;
        seen = watched_wake (SeenIn old) (SeenIn now) old.line.first old.threads a.seen ws (λ j t n v there has e unwoken see.
            elim see [
              | inr u ↦ inr u
              | inl x ↦ elim (stays_or_leaves old.state mid handed h old.side) [
                | inl k ↦ inl (x.0, x.1, after x.0 v x.1 (ap (waker_of x.0) k.0 ∙ x.2))
                | inr k ↦
                    let out : has_waiter v (handed_of old.side handed) ≡ true = ap (has_waiter v) k.1 ∙ listed_waiter (on_side old.side old.state.waiters) x.0 v x.2 in
                    let yes = woke_side old.side handed v out in
                    let no : has_waiter v ws ≡ false = ap (λ (w : ℕ). has_waiter w ws) (own a.queue j t n v there has e) ∙ unwoken in
                    absurd (cc)
              ]
            ]);
      }

  unused_attended : (world : ThreadWorld T P) → IsUnused world → IsAttended world
  unused_attended world u = record {
    good = u.0;
    queue = rw u.2 (record {
      headed = λ e. refl;
      rises = λ i j d before within. absurd (omega arith);
      below = λ k d lt. absurd (omega arith);
      keeps = Keeps-none _ (lists_of []) 0 (futures_of world.threads) nobody (λ i f at.
          let m = mapped_at _ world.threads i f at in
          ap (λ (x : Futures (Unit {0}) (Unit {0}) ℕ). ticket_of x.standing) (sym m.2) ∙ ap (λ (q : Phase). ticket_of (standing_by (number_of q) m.0.waiter)) (outside i m.0 m.1));
      leads = λ i t n at lead. let z : None ≡ Some n = sym (ap lead_of (outside i t at)) ∙ lead in absurd (cc);
      counted = omega arith;
    });
    seen = λ i t n v at asleep e no. let z : None ≡ Some (n, v) = rw u.2 at e in absurd (cc);
  }
    where
      outside : (i : ℕ) (t : Thread) → slice_get world.threads i ≡ Some t → t.phase ≡ Outside
      outside i t at = all_at (λ (t : Thread). t.phase ≡ Outside) world.threads i t u.3 at

      nobody : (side : Side) → lists_of [] side ≡ []
      nobody Room = refl
      nobody Message = refl

  module _ (cmp : P → P → Ordering) where
    attended : (old new : ThreadWorld T P) (events : List (ThreadEvent T P)) → IsAttended old → LeadsTo cmp old events new → IsAttended new
    attended old new [] a h = rw h a
    attended old new (Makes made ∷ more) a h =
        let step = h.1 in
        let l = lands cmp old.state h.0.state step.2 a.good made step.1 step.3.moves in
        attended h.0 new more (rw step.4 (handed_out old a l.mid h.0.state step.2 l.handing step.3.good
        (λ t v own w. l.after old.side t v (λ e. step.0 t e own) w))) h.2
    attended old new (Does which act ∷ more) a h = attended h.0 new more (act_kept old a which h.1.0 h.1.1 h.0 act h.1.2) h.2

    pub nobody_sleeps_on : (start world : ThreadWorld T P) (events : List (ThreadEvent T P)) → IsUnused start → LeadsTo cmp start events world → NobodySleepsOn world
    nobody_sleeps_on start world events u h i t n at has can =
        let a = attended start world events (unused_attended start u) h in
        let q = head_of a.queue i t n at has in
        record {
          which = q.2;
          head = q.3;
          number = q.0.0;
          there = q.4;
          stands = q.5;
          first = q.1 ∙ ap (λ (w : ℕ). Some (q.0.0, w)) (sym q.6);
          seen_to = seen_to a q.2 q.3 q.0.0 q.0.1 q.4 q.5 q.1 (asleep_at q.3.phase) refl q.3.is_woken refl;
        }
      where
        -- a head that sleeps although it can go on has been woken, or a thread spins
        seen_to : IsAttended world → (j : ℕ) (head : Thread) (m v : ℕ) → slice_get world.threads j ≡ Some head → number_of head.phase ≡ Some m → world.line.first ≡ Some (m, v)
            → (o : Option ℕ) → o ≡ asleep_at head.phase → (b : Bool) → b ≡ head.is_woken → (asleep_at head.phase ≡ None) ⊎ ((head.is_woken ≡ true) ⊎ SomeSpin world)
        seen_to a j head m v there stands first None asleep b woken = inl (sym asleep)
        seen_to a j head m v there stands first (Some k) asleep true woken = inr (inl (sym woken))
        seen_to a j head m v there stands first (Some k) asleep false woken =
            let same : m ≡ k = cc (asleep_number head.phase k (sym asleep)) in
            elim (a.seen j head k v there (sym asleep) (rw (← same) first) (sym woken)) [
              | inl x ↦ let none : None ≡ Some v = ap (waker_of x.0) (sym (can_go_on world.side world.state a.good can)) ∙ x.2 in absurd (cc)
              | inr u ↦
                  let f = found world.threads (let c = a.queue.counted in let pos = u.1 in omega arith) in
                  inr (inr (record { which = f.0; thread = f.1; there = f.2; lead = f.3; spins = f.4 }))
            ]
