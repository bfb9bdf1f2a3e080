-- The queue of one side beside its threads: each in it is a thread's, each thread with a number
-- stands in it, and each spin that is counted is some thread's.
use Rattle.std.proofs.Common.{◌≡◌, ◌≢◌, ℕ, ◌+◌, ◌<◌, ◌≤◌, ◌⊎◌, Bool, true, false, not, List, [], ◌∷◌, ◌++◌, get_or, map, set, refl, ap, sym, ◌∙◌, inl, inr, arith, suc, eq-eqb, Option, Some, None, slice_get, ◌==◌, option_to_list, All, sum_by}
use Rattle.std.proofs.Math.Seq.{map-set_same}
use Rattle.std.proofs.lemmas.Bool.{ne_eqb}
use Rattle.std.proofs.lemmas.List.{map-set}
use Rattle.std.proofs.lemmas.List.Sums.{sum_by-cons, sum_by-set}
use Rattle.std.proofs.lemmas.Option.{slice_get_within, get_or_from_slice_get}
use Rattle.std.proofs.lemmas.Simd.{map-map}
use Rattle.priority_channel_core.specs.declared.side.Side.{Side}
use Rattle.priority_channel_core.specs.declared.side.Side.TheVariants.{Room, Message}
use Rattle.priority_channel_core.specs.Prelude.{IsRising, without, without_given}
use Rattle.priority_channel_waiting.specs.Future.{Standing, Futures, ticket_of}
use Rattle.priority_channel_waiting.specs.Future.Standing.{Waiting, Done}
use Rattle.priority_channel_waiting.specs.Future.Task.{Recv}
use Rattle.priority_channel_core.proofs.Tickets.{follows-listing, follows-without}
use Rattle.priority_channel_core.proofs.Waiting.{filter_kept}
use Rattle.priority_channel_waiting.specs.laws.WaitingLaw.{waker_of}
use Rattle.priority_channel_waiting.specs.laws.Threads.{Phase, Thread, wake}
use Rattle.priority_channel_waiting.specs.laws.Threads.Phase.{Outside, Spins, Asks, Leads, Sleeps}
use Rattle.priority_channel_waiting.specs.laws.QueueLaw.{number_of, asleep_at}
use Rattle.priority_channel_waiting.proofs.worlds.Positions.{mapped_at, at_mapped, changed_at}
use Rattle.priority_channel_waiting.proofs.worlds.Standings.{Keeps-same, ends, waits}
use Rattle.priority_channel_waiting.proofs.worlds.Worlds.{Keeps, keeps-change}

-- the number of a thread that knows that it is the head
abbrev pub lead_of : Phase → Option ℕ
lead_of (Spins lead) = lead
lead_of (Leads number) = Some number
lead_of (Sleeps number) = Some number
lead_of _ = None

pub asleep_number : (p : Phase) (n : ℕ) → asleep_at p ≡ Some n → number_of p ≡ Some n
asleep_number p n h = grind arith

lead_number : (p : Phase) (n : ℕ) → lead_of p ≡ Some n → number_of p ≡ Some n
lead_number p n h = grind arith

abbrev pub spins : Phase → ℕ
spins (Spins lead) = 1
spins _ = 0

abbrev pub spinners : List Thread → ℕ
spinners threads = sum_by (λ thread. spins thread.phase) threads

woken_spin : (ws : List (ℕ × ℕ)) (ts : List Thread) → spinners (wake ws ts) ≡ spinners ts
woken_spin ws [] = refl
woken_spin ws (t ∷ ts) = simp sum_by-cons (ap (λ (n : ℕ). spins t.phase + n) (woken_spin ws ts))

pub found : (ts : List Thread) → 0 < spinners ts → (i : ℕ) × (t : Thread) × (slice_get ts i ≡ Some t) × (lead : Option ℕ) × (t.phase ≡ Spins lead)
found [] h = absurd (omega arith)
found (t ∷ ts) h =
    elim (either t.phase) [
      | inl none ↦ let r = found ts (omega (arith, sum_by-cons (λ (t : Thread). spins t.phase) t ts)) in (suc r.0, r.1, r.2, r.3, r.4)
      | inr some ↦ (0, t, refl, some.0, some.1)
    ]
  where
    either : (p : Phase) → (spins p ≡ 0) ⊎ ((lead : Option ℕ) × (p ≡ Spins lead))
    either (Spins lead) = inr (lead, refl)
    either p = inl refl

-- a thread with a number as a future that waits under that number, and is listed in the queue
abbrev pub standing_by : Option ℕ → ℕ → Standing ℕ
standing_by None waiter = Done
standing_by (Some number) waiter = Waiting number waiter

abbrev pub future_of : Option ℕ → ℕ → Futures (Unit {0}) (Unit {0}) ℕ
future_of number waiter = record { task = Recv; standing = standing_by number waiter }

abbrev pub futures_of : List Thread → List (Futures (Unit {0}) (Unit {0}) ℕ)
futures_of threads = map (λ thread. future_of (number_of thread.phase) thread.waiter) threads

abbrev pub lists_of : List (ℕ × ℕ) → Side → List (ℕ × ℕ)
lists_of queue Room = []
lists_of queue Message = queue

ticket_by : (o : Option ℕ) (w : ℕ) → ticket_of (standing_by o w) ≡ o
ticket_by o w = grind arith

waiting_by : (o : Option ℕ) (w n v : ℕ) → standing_by o w ≡ Waiting n v → (o ≡ Some n) × (w ≡ v)
waiting_by o w n v h = grind arith

pub without_behind : (first : Option (ℕ × ℕ)) (others : List (ℕ × ℕ)) (n : ℕ) → ((w : ℕ) → first ≡ Some (n, w) → ⊥)
    → option_to_list first ++ without n others ≡ without n (option_to_list first ++ others)
without_behind None others n behind = refl
without_behind (Some y) others n behind = let f : (y.0 == n) ≡ false = ne_eqb y.0 n (λ e. behind y.1 (ap (λ (m : ℕ). Some (m, y.1)) e)) in rw f refl

pub without_first : (first : Option (ℕ × ℕ)) (others : List (ℕ × ℕ)) (n w : ℕ) → first ≡ Some (n, w) → IsRising (option_to_list first ++ others)
    → others ≡ without n (option_to_list first ++ others)
without_first None others n w e rises = absurd (cc)
without_first (Some y) others n w e rises =
    let s : y.0 ≡ n = ap (λ (x : ℕ × ℕ). x.0) (Some-is e) in let f : (y.0 == n) ≡ true = eq-eqb y.0 n s in
    rw f (sym (filter_kept (λ a. not (a.0 == n)) others (λ k d lt.
    let r = rises 0 (suc k) d (omega arith) (omega arith) in
    let g = ne_eqb (get_or others k d).0 n (λ q. omega arith) in rw g refl)))
  where
    Some-is : {A : Type 0} {a b : A} → Some a ≡ Some b → a ≡ b
    Some-is e = cc

pub record Queued (first : Option (ℕ × ℕ)) (others : List (ℕ × ℕ)) (next spinning : ℕ) (threads : List Thread) : Type 0 where
  pub headed : first ≡ None → others ≡ []
  pub rises : IsRising (option_to_list first ++ others)
  pub below : All (λ entry. entry.0 < next) (option_to_list first ++ others)
  pub keeps : Keeps (λ waiter kept. kept ≡ waiter) (lists_of (option_to_list first ++ others)) next (futures_of threads)
  pub leads : (which : ℕ) (thread : Thread) (number : ℕ) → slice_get threads which ≡ Some thread → lead_of thread.phase ≡ Some number
      → (waiter : ℕ) × (first ≡ Some (number, waiter))
  pub counted : spinning ≤ spinners threads

module _ {first : Option (ℕ × ℕ)} {others : List (ℕ × ℕ)} {next spinning : ℕ} {threads : List Thread} (o : Queued first others next spinning threads) where
  ticket_at : (i : ℕ) (t : Thread) (n : ℕ) → number_of t.phase ≡ Some n → ticket_of (standing_by (number_of t.phase) t.waiter) ≡ Some n
  ticket_at i t n has = ticket_by (number_of t.phase) t.waiter ∙ has

  pub given : (i : ℕ) (t : Thread) (n : ℕ) → slice_get threads i ≡ Some t → number_of t.phase ≡ Some n → n < next
  given i t n at has = o.keeps.below i _ n (at_mapped _ threads i t at) (ticket_at i t n has)

  pub alone : (i j : ℕ) (t u : Thread) (n : ℕ) → slice_get threads i ≡ Some t → slice_get threads j ≡ Some u
      → number_of t.phase ≡ Some n → number_of u.phase ≡ Some n → i ≡ j
  alone i j t u n at there has has' =
      o.keeps.differ i j _ _ n (at_mapped _ threads i t at) (at_mapped _ threads j u there) (ticket_at i t n has) (ticket_at j u n has')

  -- the queue has the thread's own waiter
  waker_at : (i : ℕ) (t : Thread) (n : ℕ) → slice_get threads i ≡ Some t → number_of t.phase ≡ Some n → waker_of n (option_to_list first ++ others) ≡ Some t.waiter
  waker_at i t n at has =
      let k = o.keeps.kept i _ n t.waiter (at_mapped _ threads i t at) (ap (λ (o : Option ℕ). standing_by o t.waiter) has) in
      let e = k.1 in rw e at k.2

  head_waker : (n v : ℕ) → first ≡ Some (n, v) → waker_of n (option_to_list first ++ others) ≡ Some v
  head_waker n v e = let f : (n == n) ≡ true = eq-eqb n n refl in rw (e, f) refl

  pub own : (i : ℕ) (t : Thread) (n v : ℕ) → slice_get threads i ≡ Some t → number_of t.phase ≡ Some n → first ≡ Some (n, v) → v ≡ t.waiter
  own i t n v at has e = let it : Some v ≡ Some t.waiter = sym (head_waker n v e) ∙ waker_at i t n at has in cc

  -- who stands in the queue stands behind a head
  pub head_of : (i : ℕ) (t : Thread) (n : ℕ) → slice_get threads i ≡ Some t → number_of t.phase ≡ Some n
      → (entry : ℕ × ℕ) × (first ≡ Some entry) × (j : ℕ) × (u : Thread) × (slice_get threads j ≡ Some u) × (number_of u.phase ≡ Some entry.0) × (u.waiter ≡ entry.1)
  head_of i t n at has = headed first refl (waker_at i t n at has) where
    headed : (o' : Option (ℕ × ℕ)) → first ≡ o' → waker_of n (option_to_list first ++ others) ≡ Some t.waiter
        → (entry : ℕ × ℕ) × (first ≡ Some entry) × (j : ℕ) × (u : Thread) × (slice_get threads j ≡ Some u) × (number_of u.phase ≡ Some entry.0) × (u.waiter ≡ entry.1)
    headed None e w = let empty = o.headed e in let z : None ≡ Some t.waiter = rw (e, empty) at w in absurd (cc)
    headed (Some y) e w =
        let l = o.keeps.listed Message y.0 y.1 (head_waker y.0 y.1 e) in
        let m = mapped_at _ threads l.which l.future l.there in
        let f = m.2 in
        let s = waiting_by (number_of m.0.phase) m.0.waiter y.0 l.waker (rw (← f) at l.waits) in
        (y, e, l.which, m.0, m.1, s.0, s.1 ∙ sym l.clone)

  pub woken : (ws : List (ℕ × ℕ)) → Queued first others next spinning (wake ws threads)
  woken ws = record {
    headed = o.headed;
    rises = o.rises;
    below = o.below;
    keeps = rw map-map o.keeps;
    leads = λ j t n there lead. let m = mapped_at _ threads j t there in o.leads j m.0 n m.1 (ap (λ (t : Thread). lead_of t.phase) m.2 ∙ lead);
    counted = let e = woken_spin ws threads in let c = o.counted in omega arith;
  }

  module _ (i : ℕ) (p : Thread) (at : slice_get threads i ≡ Some p) where
    here : (f : Thread → Futures (Unit {0}) (Unit {0}) ℕ) → slice_get (map f threads) i ≡ Some (f p)
    here f = at_mapped f threads i p at

    spun : (x : Thread) → spinners (set threads i x) + spins p.phase ≡ spinners threads + spins x.phase
    spun x =
        let e = ap (λ (t : Thread). spins t.phase) (get_or_from_slice_get threads i p p at) in
        let s = sum_by-set (λ (t : Thread). spins t.phase) threads i x p (slice_get_within threads i p at) in omega arith

    -- a thread in another phase, under the number that it has or without one as before
    pub turns : (q : Phase) (w : Bool) (spinning' : ℕ) → number_of q ≡ number_of p.phase → ((n : ℕ) → lead_of q ≡ Some n → (v : ℕ) × (first ≡ Some (n, v)))
        → ((m m' : ℕ) → spinning ≤ m → m' + spins p.phase ≡ m + spins q → spinning' ≤ m')
        → Queued first others next spinning' (set threads i (record { waiter = p.waiter; phase = q; is_woken = w }))
    turns q w spinning' same lead count = record {
      headed = o.headed;
      rises = o.rises;
      below = o.below;
      keeps = rw (map-set_same _ threads i x p (ap (λ n. future_of n p.waiter) same ∙ sym (ap (λ (t : Thread). future_of (number_of t.phase) t.waiter) (get_or_from_slice_get threads i p p at)))) o.keeps;
      leads = λ j t n there lead'.
          elim (changed_at threads i j x t there) [
            | inl s ↦ lead n (ap (λ (t : Thread). lead_of t.phase) s.1 ∙ lead')
            | inr s ↦ o.leads j t n s.1 lead'
          ];
      counted = count (spinners threads) _ o.counted (spun x);
    }
      where
        x : Thread
        x = record { waiter = p.waiter; phase = q; is_woken = w }

    -- a thread from outside the queue comes to stand behind all others
    pub joins : (first' : Option (ℕ × ℕ)) (others' : List (ℕ × ℕ)) → option_to_list first' ++ others' ≡ (option_to_list first ++ others) ++ (next, p.waiter) ∷ []
        → (first' ≡ None → others' ≡ []) → ((n v : ℕ) → first ≡ Some (n, v) → first' ≡ Some (n, v)) → p.phase ≡ Outside
        → Queued first' others' (next + 1) spinning (set threads i (record { waiter = p.waiter; phase = Asks next; is_woken = p.is_woken }))
    joins first' others' is headed stays outside =
        let queue = option_to_list first ++ others in
        let follows = follows-listing queue None p.waiter next o.rises o.below in
        record {
          headed = headed;
          rises = rw is follows.rises;
          below = rw is follows.below;
          keeps = rw (is, map-set) (keeps-change _ (lists_of queue) next _ o.keeps i _ (future_of (Some next) p.waiter) (here _) _ _
              (waits _ (lists_of queue) next _ o.keeps i _ (future_of (Some next) p.waiter) (here _) None p.waiter p.waiter Message (lists_of (queue ++ (next, p.waiter) ∷ [])) (next + 1)
              (ap (λ (q : Phase). ticket_of (standing_by (number_of q) p.waiter)) (sym outside)) refl refl refl o.below refl beside refl refl));
          leads = λ j t n there lead.
              elim (changed_at threads i j (record { waiter = p.waiter; phase = Asks next; is_woken = p.is_woken }) t there) [
                | inl s ↦ let z : None ≡ Some n = ap (λ (t : Thread). lead_of t.phase) s.1 ∙ lead in absurd (cc)
                | inr s ↦ let was = o.leads j t n s.1 lead in (was.0, stays n was.0 was.1)
              ];
          counted = let e = spun (record { waiter = p.waiter; phase = Asks next; is_woken = p.is_woken }) in let c = o.counted in let z : spins p.phase ≡ 0 = ap spins outside in omega arith;
        }
      where
        beside : (other : Side) → other ≢ Message → lists_of ((option_to_list first ++ others) ++ (next, p.waiter) ∷ []) other ≡ lists_of (option_to_list first ++ others) other
        beside Room ne = refl
        beside Message ne = absurd (ne refl)

    -- a thread leaves the queue
    pub leaves : (first' : Option (ℕ × ℕ)) (others' : List (ℕ × ℕ)) (n : ℕ) → option_to_list first' ++ others' ≡ without n (option_to_list first ++ others)
        → (first' ≡ None → others' ≡ []) → ((m v : ℕ) → m ≢ n → first ≡ Some (m, v) → first' ≡ Some (m, v)) → number_of p.phase ≡ Some n → spins p.phase ≡ 0
        → Queued first' others' next spinning (set threads i (record { waiter = p.waiter; phase = Outside; is_woken = p.is_woken }))
    leaves first' others' n is headed stays has calm =
        let queue = option_to_list first ++ others in
        let follows = follows-without queue (Some n) next o.rises o.below in
        record {
          headed = headed;
          rises = rw is follows.rises;
          below = rw is follows.below;
          keeps = rw (is, map-set) (Keeps-same _ (λ side. without_given (Some n) (lists_of queue side)) (lists_of (without n queue)) next next _ both refl
              (keeps-change _ (lists_of queue) next _ o.keeps i _ (future_of None p.waiter) (here _) _ _
              (ends _ (lists_of queue) next _ o.keeps i _ (future_of None p.waiter) (here _) (Some n) (sym (ticket_at i p n has)) refl)));
          leads = λ j t m there lead.
              elim (changed_at threads i j (record { waiter = p.waiter; phase = Outside; is_woken = p.is_woken }) t there) [
                | inl s ↦ let z : None ≡ Some m = ap (λ (t : Thread). lead_of t.phase) s.1 ∙ lead in absurd (cc)
                | inr s ↦
                    let was = o.leads j t m s.1 lead in
                    (was.0, stays m was.0 (λ e. s.0 (alone i j p t n at s.1 has (lead_number t.phase m lead ∙ ap Some e))) was.1)
              ];
          counted = let e = spun (record { waiter = p.waiter; phase = Outside; is_woken = p.is_woken }) in let c = o.counted in omega arith;
        }
      where
        both : (side : Side) → lists_of (without n (option_to_list first ++ others)) side ≡ without_given (Some n) (lists_of (option_to_list first ++ others) side)
        both Room = refl
        both Message = refl
