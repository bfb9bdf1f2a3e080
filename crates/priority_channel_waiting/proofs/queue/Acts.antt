-- Each act of a thread keeps the queue, and that the head is seen to.
use Rattle.std.proofs.Common.{◌≡◌, ◌≢◌, ℕ, ◌-◌, ◌<◌, ◌⊎◌, Bool, true, false, List, [], ◌∷◌, ◌++◌, set, refl, ap, sym, ◌∙◌, inl, inr, arith, eq-eqb, append_assoc, Option, Some, None, slice_get, ◌||◌, ◌==◌, IsSome, option_to_list}
use Rattle.std.specs.List.{list_any}
use Rattle.priority_channel_core.specs.declared.side.Side.{Side}
use Rattle.priority_channel_core.specs.Prelude.{listing, without, on_side, State, IsGood}
use Rattle.priority_channel_waiting.specs.Lines.{Lined, IsFirst, Lists}
use Rattle.priority_channel_waiting.specs.laws.WaitingLaw.{waker_of}
use Rattle.priority_channel_waiting.proofs.worlds.Lookups.{waker_of-listing}
use Rattle.priority_channel_waiting.proofs.worlds.PollEnds.{enlisted_mine, tickets_given}
use Rattle.priority_channel_waiting.proofs.worlds.Positions.{Some-same, mapped_at, changed_at}
use Rattle.priority_channel_waiting.specs.laws.Threads.{Phase, Thread, ThreadWorld, wake}
use Rattle.priority_channel_waiting.specs.laws.Threads.Phase.{Asks, Waits, Leads, Sleeps}
use Rattle.priority_channel_waiting.specs.laws.ThreadEvents.{Act, WakesTo, SpinsAs, ListsFirst, Rouses, Acts}
use Rattle.priority_channel_waiting.specs.laws.ThreadEvents.Act.{Wakes, Joins, AsksForLead, Leaves, BeginsSpin, EndsSpin, ListsItself, Unlists, Promotes}
use Rattle.priority_channel_waiting.specs.laws.QueueLaw.{number_of, asleep_at}
use Rattle.priority_channel_waiting.proofs.queue.Kept.{lead_of, spins, asleep_number, without_behind, without_first, Queued, given, alone, own, woken, turns, joins, leaves}

wakes_to : (p q : Phase) → WakesTo p q → (number_of q ≡ number_of p) × (lead_of q ≡ lead_of p) × (asleep_at q ≡ None) × (spins q ≡ spins p)
wakes_to p q h = grind arith

spins_as : (p q : Phase) → SpinsAs p q → (number_of q ≡ number_of p) × (lead_of q ≡ lead_of p) × (asleep_at p ≡ None) × (spins p ≡ 0) × (spins q ≡ 1)
spins_as p q h = grind arith

or-both : (a b : Bool) → (a || b) ≡ false → (a ≡ false) × (b ≡ false)
or-both a b h = grind arith

abbrev pub has_waiter : ℕ → List (ℕ × ℕ) → Bool
has_waiter waiter waiters = list_any (λ a. a.1 == waiter) waiters

-- how a head that sleeps is seen to: it is listed, or it has no ticket and there is a spin
abbrev pub Seen : Lined → List (ℕ × ℕ) → Type 0 → ℕ → Type 0
Seen line list spun waiter =
    ((ticket : ℕ) × (line.ticket ≡ Some ticket) × (waker_of ticket list ≡ Some waiter)) ⊎ ((line.ticket ≡ None) × spun)

-- the head is seen to, if it sleeps and was not woken
abbrev pub Watched : (ℕ → Type 0) → Option (ℕ × ℕ) → List Thread → Type 0
Watched See first threads =
    (which : ℕ) (thread : Thread) (number waiter : ℕ) → slice_get threads which ≡ Some thread → asleep_at thread.phase ≡ Some number
    → first ≡ Some (number, waiter) → thread.is_woken ≡ false → See waiter

module _ (See See' : ℕ → Type 0) (first : Option (ℕ × ℕ)) (threads : List Thread) (watched : Watched See first threads) where
  watched_turn : (i : ℕ) (x : Thread) → ((v : ℕ) → See v → See' v) → ((n v : ℕ) → asleep_at x.phase ≡ Some n → first ≡ Some (n, v) → See' v)
      → Watched See' first (set threads i x)
  watched_turn i x others mine = λ j t n v there asleep e no.
      elim (changed_at threads i j x t there) [
        | inl s ↦ mine n v (ap (λ (t : Thread). asleep_at t.phase) s.1 ∙ asleep) e
        | inr s ↦ others v (watched j t n v s.1 asleep e no)
      ]

  pub watched_wake : (ws : List (ℕ × ℕ))
      → ((j : ℕ) (t : Thread) (n v : ℕ) → slice_get threads j ≡ Some t → number_of t.phase ≡ Some n → first ≡ Some (n, v) → has_waiter t.waiter ws ≡ false → See v → See' v)
      → Watched See' first (wake ws threads)
  watched_wake ws sees = λ j t n v there asleep e no.
      let m = mapped_at _ threads j t there in
      let sleeps = ap (λ (t : Thread). asleep_at t.phase) m.2 ∙ asleep in
      let unwoken = or-both m.0.is_woken (has_waiter m.0.waiter ws) (ap (λ (t : Thread). t.is_woken) m.2 ∙ no) in
      sees j m.0 n v m.1 (asleep_number m.0.phase n sleeps) e unwoken.1 (watched j m.0 n v m.1 sleeps e unwoken.0)

module _ {T P : Type 0} where
  abbrev pub SeenIn : ThreadWorld T P → ℕ → Type 0
  SeenIn world = Seen world.line (on_side world.side world.state.waiters) (0 < world.line.spinning)

  -- as `SeenIn`, with a spin or without
  abbrev SeenOrSpun : ThreadWorld T P → ℕ → Type 0
  SeenOrSpun world = Seen world.line (on_side world.side world.state.waiters) (Unit {0})

  abbrev Queue : ThreadWorld T P → Type 0
  Queue world = Queued world.line.first world.line.others world.line.next_number world.line.spinning world.threads

  pub record IsAttended (world : ThreadWorld T P) : Type 0 where
    pub good : IsGood world.state
    pub queue : Queue world
    pub seen : Watched (SeenIn world) world.line.first world.threads

  listed_under : (side : Side) (given : Option ℕ) (w : ℕ) (under : Option ℕ) (old new : State T P ℕ) → IsGood old → Lists side given w under old new → IsSome under
      → (t : ℕ) × (under ≡ Some t) × (waker_of t (on_side side new.waiters) ≡ Some w)
  listed_under side given w None old new good h some = absurd (cc)
  listed_under side given w (Some t) old new good h some =
      let e = h.0 in
      let xs = on_side side old.waiters in
      let l = listing given e.0 xs old.waiters.next_ticket in
      let hit : (l.ticket == t) ≡ true = eq-eqb l.ticket t (sym e.2.0) in (
        t,
        refl,
        ap (waker_of t) (ap (on_side side) e.2.1 ∙ (enlisted_mine side l old.waiters).0)
            ∙ (waker_of-listing xs given e.0 old.waiters.next_ticket t (tickets_given old good side) ∙ rw hit (ap Some e.1)),
      )

  -- the head is listed
  lists_first : (mid new : ThreadWorld T P) → IsGood mid.state → Queue mid → ListsFirst mid new → IsAttended new
  lists_first mid new good queue h = rw h.6 (record {
    good = h.5;
    queue = queue;
    seen = λ i t n v at asleep e no.
        let head : h.0.1 ≡ v = ap (λ (x : ℕ × ℕ). x.1) (Some-same mid.line.first h.0 (n, v) h.1 e) in
        inl (rw (← head) (listed_under mid.side mid.line.ticket h.0.1 new.line.ticket mid.state new.state good h.3 h.4));
  })

  rouses : (mid new : ThreadWorld T P) → IsGood mid.state → Queue mid → Watched (SeenOrSpun mid) mid.line.first mid.threads → Rouses mid new → IsAttended new
  rouses mid new good queue watched (inl h) = rw h.1 (record {
    good = good;
    queue = queue;
    seen = λ i t n v at asleep e no.
        elim (watched i t n v at asleep e no) [
          | inl x ↦ inl x
          | inr u ↦ let spun : mid.line.spinning ≢ 0 = λ z. h.0 (rw e refl, u.0, z) in inr (u.0, omega arith)
        ];
  })
  rouses mid new good queue watched (inr h) =
      elim h.1 [
        | inl lists ↦ lists_first mid new good queue lists
        | inr wakes ↦ rw wakes (record {
          good = good;
          queue = woken queue (option_to_list mid.line.first);
          seen = watched_wake (SeenOrSpun mid) (SeenIn mid) mid.line.first mid.threads watched (option_to_list mid.line.first)
              (λ j t n v there has e no see. let x : (v == t.waiter) ≡ true = eq-eqb v t.waiter (own queue j t n v there has e) in let yes : true ≡ false = rw (e, x) at no in absurd (cc));
        })
      ]

  module _ (old : ThreadWorld T P) (a : IsAttended old) (i : ℕ) (p : Thread) (at : slice_get old.threads i ≡ Some p) where
    as_before : (q : Phase) → lead_of q ≡ lead_of p.phase → (n : ℕ) → lead_of q ≡ Some n → IsFirst old.line n
    as_before q same n e = a.queue.leads i p n at (sym same ∙ e)

    -- a thread turns, and nothing else changes
    quiet : (q : Phase) (w : Bool) → number_of q ≡ number_of p.phase → ((n : ℕ) → lead_of q ≡ Some n → IsFirst old.line n) → spins q ≡ spins p.phase
        → ((n v : ℕ) → asleep_at q ≡ Some n → old.line.first ≡ Some (n, v) → SeenIn old v)
        → IsAttended (record old { threads = set old.threads i (record { waiter = p.waiter; phase = q; is_woken = w }) })
    quiet q w number leads same seen = record {
      good = a.good;
      queue = turns a.queue i p at q w old.line.spinning number leads (λ m m' c e. omega arith);
      seen = watched_turn (SeenIn old) (SeenIn old) old.line.first old.threads a.seen i _ (λ v see. see) seen;
    }

    pub act_kept : (new : ThreadWorld T P) (act : Act) → Acts old i p act new → IsAttended new
    act_kept new Wakes h =
        let q = wakes_to p.phase h.0 h.1 in rw h.2 (quiet h.0 false q.0 (as_before h.0 q.1) q.3 (λ n v e f. absurd (cc)))
    act_kept new Joins h =
        elim h.1 [
          | inl f ↦ rw (h.2, f.1) (record {
            good = a.good;
            queue = joins a.queue i p at (Some (old.line.next_number, p.waiter)) old.line.others (let empty = a.queue.headed f.0 in rw (f.0, empty) refl) (λ e. absurd (cc)) (λ n v e. absurd (cc)) h.0;
            seen = λ j t n v there asleep e no.
                elim (changed_at old.threads i j (record { waiter = p.waiter; phase = Asks old.line.next_number; is_woken = p.is_woken }) t there) [
                  | inl s ↦ let z : None ≡ Some n = ap (λ (t : Thread). asleep_at t.phase) s.1 ∙ asleep in absurd (cc)
                  | inr s ↦
                      let g = given a.queue j t n s.1 (asleep_number t.phase n asleep) in
                      let same : old.line.next_number ≡ n = ap (λ (x : ℕ × ℕ). x.0) (Some-same _ _ _ refl e) in absurd (omega arith)
                ];
          })
          | inr b ↦ rw (h.2, b.1) (record {
            good = a.good;
            queue = joins a.queue i p at old.line.first (old.line.others ++ (old.line.next_number, p.waiter) ∷ []) (rw append_assoc refl) (λ e. absurd (cc)) (λ n v e. e) h.0;
            seen = watched_turn (SeenIn old) (SeenIn old) old.line.first old.threads a.seen i _ (λ v see. see) (λ n v e f. absurd (cc));
          })
        ]
    act_kept new AsksForLead h =
        elim h.2 [
          | inl l ↦ rw l.1 (quiet (Leads h.0) p.is_woken (sym (ap number_of h.1)) (λ n e. let s : h.0 ≡ n = cc in rw (← s) l.0) (sym (ap spins h.1)) (λ n v e f. absurd (cc)))
          | inr w ↦ rw w.1 (quiet (Waits h.0) p.is_woken (sym (ap number_of h.1)) (λ n e. absurd (cc)) (sym (ap spins h.1))
              (λ n v e f. let s : h.0 ≡ n = cc in absurd (w.0 (v, rw s f))))
        ]
    act_kept new Leaves h = rw h.3 (record {
      good = a.good;
      queue = leaves a.queue i p at old.line.first (without h.0 old.line.others) h.0 (without_behind old.line.first old.line.others h.0 (λ w e. h.2 (w, e)))
          (λ e. ap (without h.0) (a.queue.headed e)) (λ m v ne e. e) (ap number_of h.1) (ap spins h.1);
      seen = watched_turn (SeenIn old) (SeenIn old) old.line.first old.threads a.seen i _ (λ v see. see) (λ n v e f. absurd (cc));
    })
    act_kept new BeginsSpin h =
        let q = spins_as p.phase h.0 h.1 in
        rw h.5 (record {
          good = h.4.0;
          queue = turns a.queue i p at h.0 p.is_woken new.line.spinning q.0 (as_before h.0 q.1) (λ m m' c e. let most = h.3 in omega arith);
          seen = λ j t n v there asleep e no. inr (refl, h.2);
        })
    act_kept new EndsSpin h =
        let q = spins_as h.0 p.phase h.1 in
        rouses _ new a.good (turns a.queue i p at h.0 p.is_woken (old.line.spinning - 1) (sym q.0) (as_before h.0 (sym q.1)) (λ m m' c e. omega arith))
        (watched_turn (SeenIn old) _ old.line.first old.threads a.seen i _ (λ v see. elim see [ inl x ↦ inl x | inr u ↦ inr (u.0, tt) ]) (λ n v e f. absurd (cc))) h.2
    act_kept new ListsItself h =
        lists_first _ new a.good (turns a.queue i p at (Sleeps h.0) p.is_woken old.line.spinning (sym (ap number_of h.1)) (as_before (Sleeps h.0) (sym (ap lead_of h.1)))
        (λ m m' c e. let s = ap spins h.1 in omega arith)) h.2
    -- the head takes itself off the list: it is awake, so nobody else has to see to it
    act_kept new Unlists h = rw h.3 (record {
      good = h.2.0;
      queue = a.queue;
      seen = λ j t m v there asleep e no.
          let first = a.queue.leads i p h.0 at (ap lead_of h.1) in
          let same : h.0 ≡ m = ap (λ (x : ℕ × ℕ). x.0) (Some-same old.line.first (h.0, first.0) (m, v) first.1 e) in
          let me : i ≡ j = alone a.queue i j p t m at there (ap number_of h.1 ∙ ap Some same) (asleep_number t.phase m asleep) in
          let it : p ≡ t = Some-same (slice_get old.threads i) p t at (ap (slice_get old.threads) me ∙ there) in
          let up : None ≡ Some m = sym (ap asleep_at (ap (λ (t : Thread). t.phase) (sym it) ∙ h.1)) ∙ asleep in
          absurd (cc);
    })
    act_kept new Promotes h =
        let first = a.queue.leads i p h.0 at (ap lead_of h.1) in
        rouses _ new a.good
        (leaves a.queue i p at h.2 h.3 h.0 (sym h.4 ∙ without_first old.line.first old.line.others h.0 first.0 first.1 a.queue.rises) h.5
        (λ m v ne e. absurd (ne (ap (λ (x : ℕ × ℕ). x.0) (Some-same old.line.first (m, v) (h.0, first.0) e first.1)))) (ap number_of h.1) (ap spins h.1))
        (λ j t n v there asleep e no. inr (refl, tt)) h.6
