-- What holds of a world holds after each event.
use Rattle.std.proofs.Common.{◌≡◌, ◌≢◌, ℕ, ◌<◌, ◌≤◌, ◌⊎◌, List, [], ◌∷◌, length, set, refl, ap, sym, ◌∙◌, inl, inr, arith, Option, Some, None, slice_get}
use Rattle.priority_channel_core.specs.declared.side.Side.{Side}
use Rattle.priority_channel_core.specs.declared.side.Side.TheVariants.{Room, Message}
use Rattle.priority_channel_core.specs.Prelude.{State, Handed, nobody, without_given, IsGood, Step, Answers, Waiters, on_side, unlist, Ordering}
use Rattle.priority_channel_waiting.specs.Future.{Tasks, Standing, Futures, ticket_of, poll_of, future_after, GivesUpTicket}
use Rattle.priority_channel_waiting.specs.Future.Standing.{New, Waiting, Called, Done}
use Rattle.priority_channel_waiting.specs.laws.WaitingLaw.{waker_of, side_of, CanGoOn, NobodyIsForgotten, GivenOnce, CalledBy}
use Rattle.priority_channel_waiting.specs.laws.World.{World, Event, standing_after, call_out, PollsFuture, Happens, Leads, IsOpening}
use Rattle.priority_channel_waiting.specs.laws.World.Event.{Makes, Polls, GivesUp}
use Rattle.priority_channel_waiting.proofs.worlds.Positions.{all_at, at_mapped, changed_at}
use Rattle.priority_channel_core.proofs.runs.Hands.{Hands, hands}
use Rattle.priority_channel_waiting.proofs.worlds.Worlds.{Keeps, Changes, had_ticket, keeps-call_out, keeps-change, called_from}
use Rattle.priority_channel_waiting.proofs.worlds.PollEnds.{unlist_side, lists_of, stays_or_leaves, still_given, poll_end}
use Rattle.priority_channel_waiting.proofs.worlds.Standings.{Keeps-same, Keeps-none, ends, waits}
use Rattle.priority_channel_waiting.proofs.worlds.Callings.{called-ticket}

called_nobody : {W : Type 0} (s : Standing W) → standing_after nobody s ≡ s
called_nobody (Waiting t w) = refl
called_nobody s = refl

some_pending : {A : Type 0} (xs : List A) → xs ≢ [] → 0 < length xs
some_pending [] ne = absurd (ne refl)
some_pending (x ∷ xs) ne = omega arith

module _ {T P W : Type 0} where
  -- nobody waits for what is there, or never comes
  pub can_go_on : (side : Side) (s : State T P W) → IsGood s → CanGoOn s side → on_side side s.waiters ≡ []
  can_go_on Room s good (inl closed) = (good.no_waiters_if_closed closed).0
  can_go_on Room s good (inr ne) = good.room_waiters_if_full (let w = good.within_capacity in omega arith)
  can_go_on Message s good (inl over) = (good.no_waiters_if_closed over.0).1 over.1
  can_go_on Message s good (inr ne) = good.message_waiters_if_empty (some_pending s.pending ne)

  -- the next ticket does not fall, and a ticket given before is still held by the same future
  record Passes (old new : World T P W) : Type 0 where
    grows : old.state.waiters.next_ticket ≤ new.state.waiters.next_ticket
    held : GivenOnce old new

  module _ (is_clone : W → W → Type 0) where
    record IsKept (world : World T P W) : Type 0 where
      good : IsGood world.state
      keeps : Keeps is_clone (lists_of world.state) world.state.waiters.next_ticket world.futures

    -- what an event leads to
    abbrev IsNext : World T P W → Handed W → World T P W → Type 0
    IsNext old handed new = IsKept new × Passes old new × CalledBy is_clone old handed new

    passes_same : (old new : World T P W) → new ≡ old → Passes old new
    passes_same old new is = rw is (record { grows = omega arith; held = λ i g t at has lt. (g, at, has) })

    passes_more : (a b c : World T P W) → Passes a b → Passes b c → Passes a c
    passes_more a b c p q = record {
      grows = let x = p.grows in let y = q.grows in omega arith;
      held = λ i g t at has lt.
          let later = q.held i g t at has (let x = p.grows in omega arith) in
          p.held i later.0 t later.1 later.2 lt;
    }

    -- some waiters were woken
    module _ (old : World T P W) (k : IsKept old) (mid : State T P W) (handed : Handed W) (h : Hands old.state mid handed) where
      called_world : Keeps is_clone (lists_of mid) mid.waiters.next_ticket (call_out handed old.futures)
      called_world =
          Keeps-same is_clone (lists_of mid) (lists_of mid) old.state.waiters.next_ticket mid.waiters.next_ticket _ (λ side. refl) h.next
          (keeps-call_out is_clone (lists_of old.state) old.state.waiters.next_ticket old.futures k.keeps handed (lists_of mid) (stays_or_leaves old.state mid handed h))

      woken_from : (i : ℕ) (g : Futures T P W) (t : ℕ) (w : W) → slice_get (call_out handed old.futures) i ≡ Some g → g.standing ≡ Called t w
          → (f : Futures T P W) × (slice_get old.futures i ≡ Some f)
          × ((f.standing ≡ Called t w) ⊎ ((f.standing ≡ Waiting t w) × (k : W) × is_clone w k × ((waker_of t handed.room ≡ Some k) ⊎ (waker_of t handed.message ≡ Some k))))
      woken_from = called_from is_clone (lists_of old.state) old.state.waiters.next_ticket old.futures k.keeps handed (lists_of mid) (stays_or_leaves old.state mid handed h)

      -- and one future changed
      changed_world : (i : ℕ) (f : Futures T P W) (at : slice_get old.futures i ≡ Some f) (new : World T P W) (g : Futures T P W) (lists' : Side → List (ℕ × W)) (next' : ℕ)
          → Changes is_clone (lists_of mid) mid.waiters.next_ticket (call_out handed old.futures) called_world i (record { task = f.task; standing = standing_after handed f.standing }) g
          (at_mapped _ old.futures i f at) lists' next'
          → ((t : ℕ) (w : W) → g.standing ≢ Called t w)
          → ((side : Side) → lists_of new.state side ≡ lists' side) → new.state.waiters.next_ticket ≡ next' → new.futures ≡ set (call_out handed old.futures) i g → IsGood new.state
          → IsNext old handed new
      changed_world i f at new g lists' next' c not_called same nexts futures good =
          let keeps = keeps-change is_clone (lists_of mid) mid.waiters.next_ticket (call_out handed old.futures) called_world i _ g (at_mapped _ old.futures i f at) lists' next' c in
          let came : (j : ℕ) (u : Futures T P W) → slice_get new.futures j ≡ Some u → ((i ≡ j) × (g ≡ u)) ⊎ ((i ≢ j) × (slice_get (call_out handed old.futures) j ≡ Some u))
          = λ j u there. changed_at (call_out handed old.futures) i j g u (rw futures at there) in (
            record { good = good; keeps = rw futures (Keeps-same is_clone lists' (lists_of new.state) next' new.state.waiters.next_ticket _ same nexts keeps) },
            record {
              grows = let n = h.next in let e = c.grows in omega arith;
              held = λ j u t there has lt.
                  elim (came j u there) [
                    | inl s ↦ elim (c.ticket t (ap (λ (x : Futures T P W). ticket_of x.standing) s.1 ∙ has)).1 [
                      | inl mine ↦ (f, ap (slice_get old.futures) (sym s.0) ∙ at, sym (called-ticket handed f.standing) ∙ mine)
                      | inr above ↦ let n = h.next in absurd (omega arith)
                    ]
                    | inr s ↦ had_ticket handed old.futures j u t s.1 has
                  ];
            },
            λ j u t w there is.
                elim (came j u there) [
                  | inl s ↦ absurd (not_called t w (ap (λ (x : Futures T P W). x.standing) s.1 ∙ is))
                  | inr s ↦ woken_from j u t w s.1 is
                ],
          )

    unlisted_lists : (given : Option ℕ) (mid new : State T P W) → new.waiters ≡ unlist given mid.waiters → (side : Side) → lists_of new side ≡ without_given given (lists_of mid side)
    unlisted_lists given mid new is side = ap (on_side side) is ∙ unlist_side given side mid.waiters

    live : (cmp : P → P → Ordering) (old new : World T P W) (which : ℕ) (waker : W) (f : Futures T P W) (handed : Handed W) (reply : Answers T P)
        → slice_get old.futures which ≡ Some f → Step cmp is_clone old.state (poll_of f.task (ticket_of f.standing) waker) reply handed new.state
        → new.futures ≡ set (call_out handed old.futures) which (future_after f.task waker reply) → IsKept old → IsNext old handed new
    live cmp old new which waker f handed reply at step futures k =
        let own = sym (called-ticket handed f.standing) in
        elim (poll_end cmp is_clone old.state new.state handed (ticket_of f.standing) waker f.task reply step.moves) [
          | inl e ↦
              changed_world old k e.mid handed e.handing which f at new _ _ _ (ends is_clone _ _ _ _ which _ _ _ (ticket_of f.standing) own e.done)
              (λ t w is. let d = e.done in cc) (unlisted_lists (ticket_of f.standing) e.mid new.state e.left) (ap (λ (w : Waiters W). w.next_ticket) e.left) futures step.good
          | inr w ↦
              changed_world old k w.mid handed w.handing which f at new _ (lists_of new.state) new.state.waiters.next_ticket
              (waits is_clone _ _ _ _ which _ _ _ (ticket_of f.standing) w.kept waker (side_of f.task) (lists_of new.state) new.state.waiters.next_ticket own w.clone refl w.goes_on
              (still_given old.state w.mid handed w.handing k.good (side_of f.task)) w.mine w.others w.nexts w.stands)
              (λ t v is. let d = w.stands in cc) (λ side. refl) refl futures step.good
        ]

    polls_kept : (cmp : P → P → Ordering) (old new : World T P W) (which : ℕ) (waker : W) (task : Tasks T P) (standing : Standing W) (handed : Handed W)
        → slice_get old.futures which ≡ Some (record { task = task; standing = standing })
        → PollsFuture cmp is_clone old which waker task standing handed new → IsKept old → IsNext old handed new
    polls_kept cmp old new which waker task Done handed at h k = (
      rw h.1 k,
      passes_same old new h.1,
      λ j f t w there is. (f, ap (λ (world : World T P W). slice_get world.futures j) (sym h.1) ∙ there, inl is),
    )
    polls_kept cmp old new which waker task standing handed at h k = live cmp old new which waker _ handed h.0 at h.1 h.2 k

    call_out_nobody : (futures : List (Futures T P W)) → call_out nobody futures ≡ futures
    call_out_nobody [] = refl
    call_out_nobody (f ∷ futures) =
        let e = called_nobody f.standing in let r = call_out_nobody futures in
        let g : record { task = f.task; standing = standing_after nobody f.standing } ≡ f = ap (λ (s : Standing W). record { task = f.task; standing = s }) e in
        cc

    gives_up_left : (cmp : P → P → Ordering) (old new : State T P W) (given : Option ℕ) → IsGood old → GivesUpTicket cmp is_clone old given new → IsGood new × (new.waiters ≡ unlist given old.waiters)
    gives_up_left cmp old new None good h = (rw h good, ap (λ (s : State T P W). s.waiters) h)
    gives_up_left cmp old new (Some t) good h = (h.good, ap (λ (s : State T P W). s.waiters) h.moves.1)

    happens_kept : (cmp : P → P → Ordering) (old new : World T P W) (event : Event T P W) (handed : Handed W)
        → Happens cmp is_clone old event handed new → IsKept old → IsNext old handed new
    happens_kept cmp old new (Makes made) handed h k =
        let handing = hands old.state new.state handed cmp is_clone made h.1 h.0 h.2.moves in (
          record { good = h.2.good; keeps = rw h.3 (called_world old k new.state handed handing) },
          record { grows = let n = handing.next in omega arith; held = λ i g t at has lt. had_ticket handed old.futures i g t (rw h.3 at at) has },
          λ j f t w at is. woken_from old k new.state handed handing j f t w (rw h.3 at at) is,
        )
    happens_kept cmp old new (Polls which waker) handed h k = polls_kept cmp old new which waker h.0.task h.0.standing handed h.1 h.2 k
    happens_kept cmp old new (GivesUp which) handed h k =
        let given = ticket_of h.0.standing in
        let handing : Hands old.state old.state nobody = record { room = inl (refl, refl); message = inl (refl, refl); next = refl } in
        let left = gives_up_left cmp old.state new.state given k.good h.3 in
        rw h.2 (changed_world old k old.state nobody handing which h.0 h.1 new (record { task = h.0.task; standing = Done }) _ _
        (ends is_clone _ _ _ _ which _ _ _ given (sym (called-ticket nobody h.0.standing)) refl) (λ t w is. cc)
        (unlisted_lists given old.state new.state left.1) (ap (λ (w : Waiters W). w.next_ticket) left.1) (rw (call_out_nobody old.futures) h.4) left.0)

    leads_kept : (cmp : P → P → Ordering) (old new : World T P W) (events : List (Event T P W)) → Leads cmp is_clone old events new → IsKept old → IsKept new × Passes old new
    leads_kept cmp old new [] h k = (rw h k, passes_same old new h)
    leads_kept cmp old new (event ∷ more) h k =
        let first = happens_kept cmp old h.1 event h.0 h.2 k in
        let rest = leads_kept cmp h.1 new more h.3 first.0 in
        (rest.0, passes_more old h.1 new first.1 rest.1)

    opening_kept : (world : World T P W) → IsOpening world → IsKept world
    opening_kept world o = record {
      good = o.0;
      keeps = Keeps-none is_clone (lists_of world.state) _ world.futures nobody
          (λ i f at. ap ticket_of (all_at (λ (f : Futures T P W). f.standing ≡ New) world.futures i f o.2 at));
    }
      where
        nobody : (side : Side) → lists_of world.state side ≡ []
        nobody Room = ap (λ (s : State T P W). s.waiters.room) o.1
        nobody Message = ap (λ (s : State T P W). s.waiters.message) o.1

    cannot_go_on : (s : State T P W) (side : Side) (t : ℕ) (k : W) → IsGood s → waker_of t (on_side side s.waiters) ≡ Some k → CanGoOn s side → ⊥
    cannot_go_on s side t k good here can = let n : None ≡ Some k = rw (can_go_on side s good can) at here in absurd (cc)

    pub nobody_is_forgotten : (cmp : P → P → Ordering) (opening world : World T P W) (events : List (Event T P W)) → IsOpening opening
        → Leads cmp is_clone opening events world → NobodyIsForgotten is_clone world
    nobody_is_forgotten cmp opening world events o h =
        let k = (leads_kept cmp opening world events h (opening_kept opening o)).0 in
        let cannot : (i : ℕ) (f : Futures T P W) (t : ℕ) (w : W) → slice_get world.futures i ≡ Some f → f.standing ≡ Waiting t w → CanGoOn world.state (side_of f.task) → ⊥ =
        λ i f t w at is can. let l = k.keeps.kept i f t w at is in cannot_go_on world.state (side_of f.task) t l.0 k.good l.2 can in
        record {
          good = k.good;
          waiting_is_listed = k.keeps.kept;
          listed_is_waiting = k.keeps.listed;
          waiting_cannot_go_on = cannot;
          called_if_can_go_on = λ i f at not_new not_done can. called_one f.standing not_new not_done (λ t w is. cannot i f t w at is can);
          tickets_were_given = λ i f t at has. k.keeps.below i f t at has;
          tickets_differ = λ i j f g t at at' has has'. k.keeps.differ i j f g t at at' has has';
        }
      where
        called_one : (s : Standing W) → s ≢ New → s ≢ Done → ((t : ℕ) (w : W) → s ≡ Waiting t w → ⊥) → (t : ℕ) × (w : W) × (s ≡ Called t w)
        called_one New a b c = absurd (a refl)
        called_one (Waiting t w) a b c = absurd (c t w refl)
        called_one (Called t w) a b c = (t, w, refl)
        called_one Done a b c = absurd (b refl)

    pub given_once : (cmp : P → P → Ordering) (opening earlier later : World T P W) (before after : List (Event T P W)) → IsOpening opening
        → Leads cmp is_clone opening before earlier → Leads cmp is_clone earlier after later → GivenOnce earlier later
    given_once cmp opening earlier later before after o h k =
        let first = (leads_kept cmp opening earlier before h (opening_kept opening o)).0 in
        (leads_kept cmp earlier later after k first).1.held

    pub numbers_rise : (cmp : P → P → Ordering) (opening earlier later : World T P W) (before after : List (Event T P W)) → IsOpening opening
        → Leads cmp is_clone opening before earlier → Leads cmp is_clone earlier after later → earlier.state.waiters.next_ticket ≤ later.state.waiters.next_ticket
    numbers_rise cmp opening earlier later before after o h k =
        let first = (leads_kept cmp opening earlier before h (opening_kept opening o)).0 in
        (leads_kept cmp earlier later after k first).1.grows

    pub called_by : (cmp : P → P → Ordering) (opening old new : World T P W) (events : List (Event T P W)) (event : Event T P W) (handed : Handed W) → IsOpening opening
        → Leads cmp is_clone opening events old → Happens cmp is_clone old event handed new → CalledBy is_clone old handed new
    called_by cmp opening old new events event handed o h step =
        (happens_kept cmp old new event handed step (leads_kept cmp opening old events h (opening_kept opening o)).0).2
