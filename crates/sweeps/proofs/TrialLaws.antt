-- What the definitions of Trials say: a window that stands, and the bytes of what is known in it.
use Rattle.std.specs.Prelude.{Option, Some}
use mathlib.Core.Bool.{Bool, ◌&&◌, cond, false, not, true}
use mathlib.Core.List.{List, [], ◌∷◌}
use mathlib.Core.Path.{◌∙◌, ◌≡◌, ap, refl, sym}
use Prim.Native.Nat.{◌%◌, ◌*◌, ◌+◌, ◌/◌, ◌<◌, ◌≤◌, ℕ}
use native.Mathlib.Nat.{div-add-mod', div-lt_iff_lt-mul, mod-lt, mul_comm}
use native.Mathlib.Omega.{arith}
use lib.Arith.{digits_div, digits_mod}
use lib.Dec.{eqb, leb, ltb}
use lib.ListN.{length, replicate}
use lib.Seq.{ext_get_or}
use borrow.Author.Tests.{eq-eqb, eqb-true, le-leb, leb-true, ltb-true, ne_eqb}
use Rattle.values.proofs.BoolLaws.{and_left, and_right, or_right, or_second}
use Rattle.values.proofs.ListLaws.{every-at, every-by, every_fails, get_or-build, length-build}
use Rattle.gates.proofs.ValueLaws.{known-low, unknown_high, unknown_is}
use Rattle.values.specs.Lists.{at, every}
use Rattle.gates.specs.Value.{is_unknown}
use Rattle.netlist.proofs.SoundLaws.{answered-sound, refused_positive}
use Rattle.netlist.specs.Answer.{Answer, answered, number_of, refused}
use Rattle.circuit.proofs.FaultLaws.{held_is, held_low}
use Rattle.circuit.specs.Fault.{StuckLines, fault_exists, held, lines_of}
use Rattle.netlist.specs.Netlist.{Net, net_of, node_count, pin_count, reading, sound}
use Rattle.circuit.specs.declared.fault.Fault.{Fault}
use Rattle.knowledge.proofs.HoldLaws.{place-within}
use Rattle.knowledge.specs.Inner.Slice.{Holds, known_in}
use Rattle.knowledge.specs.Window.{known, present_below, most_frames}
use Rattle.certificate.specs.Certificate.{head_length}
use Rattle.trace.specs.Inner.Tracing.{Traced, tracing}
use Rattle.sweeps.proofs.GuessLaws.{held_all, held_nowhere}
use Rattle.sweeps.proofs.WorkLaws.{open_tally}
use Rattle.sweeps.specs.Inner.Trials.{Tried, certified, certifying, following, has_held, last_branch, noting, noting_open, opening, work_fits, swept_once, tried, trying, window_bytes, window_stands}
use Rattle.splits.specs.Inner.NoteBytes.{noted_with}
use Rattle.sweeps.specs.Inner.Work.{HasHeld, Work}
use Rattle.sweeps.specs.Splits.{certificate_for, split_closes, step_count}
use Rattle.certificate.specs.Written.{written}
use Rattle.splits.specs.declared.split.Split.{Split}

-- a netlist that is not refused is sound
number-sound : (bs : List ℕ) → number_of (reading bs) ≡ 0 → reading bs ≡ sound (node_count bs) (pin_count bs)
number-sound bs = go (reading bs) refl
  where
    go : (a : Answer) → reading bs ≡ a → number_of a ≡ 0 → reading bs ≡ sound (node_count bs) (pin_count bs)
    go (refused k) e z = absurd (omega (arith, refused_positive bs k e, z))
    go (answered vs) e z = answered-sound bs vs e

-- what holds where a window stands
pub record Stands (bs : List ℕ) (f : Fault) (F : ℕ) (s : Split) (places : ℕ) : Type 0 where
  pub short : s.c + F + 1 ≤ most_frames
  pub frame : s.frame < s.c + F + 1
  pub node : s.node < (net_of bs).size
  pub size : places ≡ (net_of bs).size * (s.c + F + 1)
  pub exists : fault_exists (net_of bs) f ≡ true
  pub reads : reading bs ≡ sound (node_count bs) (pin_count bs)

pub stands : (bs : List ℕ) (f : Fault) (F : ℕ) (s : Split) (places : ℕ) → window_stands bs f F s places ≡ true → Stands bs f F s places
unfolding window_stands
stands bs f F s places e =
    record {
      short = leb-true _ _ (and_left a (b && (g && (d && (h && i)))) e);
      frame = ltb-true _ _ (and_left b (g && (d && (h && i))) e₁);
      node = ltb-true _ _ (and_left g (d && (h && i)) e₂);
      size = eqb-true _ _ (and_left d (h && i) e₃);
      exists = and_left h i e₄;
      reads = number-sound bs (eqb-true _ _ (and_right h i e₄));
    }
  where
    W : ℕ
    W = s.c + F + 1

    N : ℕ
    N = (net_of bs).size

    a : Bool
    a = leb W most_frames

    b : Bool
    b = ltb s.frame W

    g : Bool
    g = ltb s.node N

    d : Bool
    d = eqb places (N * W)

    h : Bool
    h = fault_exists (net_of bs) f

    i : Bool
    i = eqb (number_of (reading bs)) 0

    e₁ : (b && (g && (d && (h && i)))) ≡ true
    e₁ = and_right a (b && (g && (d && (h && i)))) e

    e₂ : (g && (d && (h && i))) ≡ true
    e₂ = and_right b (g && (d && (h && i))) e₁

    e₃ : (d && (h && i)) ≡ true
    e₃ = and_right g (d && (h && i)) e₂

    e₄ : (h && i) ≡ true
    e₄ = and_right d (h && i) e₃

-- Bytes of a window's length that hold what is known are the window's bytes, and these hold it.
module _ (net : Net) (S : ℕ → StuckLines) (W : ℕ) (l : List ℕ) where
  abbrev byte : ℕ → ℕ
  byte p = known net S l (p % net.size) (p / net.size)

  pub holds-bytes : (bytes : List ℕ) → 0 < net.size → length bytes ≡ net.size * W → Holds net S W l bytes → bytes ≡ window_bytes net S W l
  unfolding Holds window_bytes
  holds-bytes bytes some full holds =
      ext_get_or 0 bytes (window_bytes net S W l) (full ∙ sym (length-build (λ _. byte) (net.size * W))) same
    where
      same : (p : ℕ) → p < length bytes → at bytes p ≡ at (window_bytes net S W l) p
      same p h =
          ap (at bytes) (sym (div-add-mod' p net.size))
          ∙ holds (p % net.size) (p / net.size) (mod-lt p some) ((div-lt_iff_lt-mul some).1 (omega (arith, h, full, mul_comm net.size W)))
          ∙ sym (get_or-build (λ _. byte) 0 (net.size * W) (omega (arith, h, full)))

  pub bytes_hold : Holds net S W l (window_bytes net S W l)
  unfolding Holds window_bytes
  bytes_hold n t h g =
      get_or-build (λ _. byte) 0 (net.size * W) (place-within net.size W n t h g)
      ∙ ap (λ (x : ℕ). known net S l x (byte-frame)) (digits_mod t h)
      ∙ ap (known net S l n) (digits_div t h)
    where
      byte-frame : ℕ
      byte-frame = (t * net.size + n) / net.size

-- ---- trials of a split

pub tried_same : {a b : Bool} {k l m n : List ℕ} → a ≡ b → k ≡ l → m ≡ n → tried a k m ≡ tried b l n
tried_same {a} {b} {k} {l} {m} {n} e f g =
    ap (λ (x : Bool). tried x k m) e ∙ ap (λ (x : List ℕ). tried b x m) f ∙ ap (tried b l) g

module _ (bs : List ℕ) (f : Fault) (F : ℕ) (s : Split) (values : List ℕ) where
  pub trying-stands : (touched : List ℕ) → window_stands bs f F s (length values) ≡ true → length touched ≡ length values
      → tried (split_closes (net_of bs) f F s) (window_bytes (net_of bs) (present_below s.c (lines_of f)) (s.c + F + 1) (last_branch (net_of bs) f F s).values) (replicate (length touched) 0)
      ≡ trying bs f F s values touched
  unfolding trying
  trying-stands touched e g = rw (e, eq-eqb _ _ g)

  -- the certificate is written
  pub certifying-stands : (certificate : List ℕ) → window_stands bs f F s (length values) ≡ true → head_length + 14 * length values ≤ length certificate
      → certified (Some (step_count (net_of bs) f F s)) (replicate (length values) 0) (written (certificate_for (net_of bs) f F s) certificate)
      ≡ certifying bs f F s values certificate
  unfolding certifying
  certifying-stands certificate e g = rw (e, le-leb _ _ g)

-- certificates with the same count and the same bytes are the same
pub certified-same : {a b : Option ℕ} {k l m n : List ℕ} → a ≡ b → k ≡ l → m ≡ n → certified a k m ≡ certified b l n
certified-same {a} {b} {k} {l} {m} {n} e f g =
    ap (λ (x : Option ℕ). certified x k m) e ∙ ap (λ (x : List ℕ). certified b x m) f ∙ ap (certified b l) g

-- ---- held values

module _ (N : ℕ) (f : Fault) (c : ℕ) (values : List ℕ) where
  abbrev stuck : ℕ
  stuck = (lines_of f).node f.node

  abbrev has : ℕ → Bool
  has t = eqb (at values (t * N + f.node)) stuck

  pub has_nowhere : 2 ≤ stuck → true ≡ has_held N f c values
  unfolding has_held
  has_nowhere h = rw (unknown_high stuck h)

  pub has_missing : stuck < 2 → (t : ℕ) → t < c → (at values (t * N + f.node) ≡ stuck → ⊥) → false ≡ has_held N f c values
  unfolding has_held
  has_missing low t h d = rw (known-low stuck low, every_fails has c t h (ne_eqb _ _ d))

  pub has_all : ((t : ℕ) → t < c → at values (t * N + f.node) ≡ stuck) → true ≡ has_held N f c values
  unfolding has_held
  has_all have = sym (or_second (is_unknown stuck) (every has c) (every-by has c (λ t h. eq-eqb _ _ (have t h))))

  -- every frame below c is looked at
  pub has_by_frames : (u : ℕ) → held stuck ≡ Some u → (r : Bool) → r ≡ every (λ t. eqb (at values (t * N + f.node)) u) c → r ≡ has_held N f c values
  unfolding has_held
  has_by_frames u e r q = rw (known-low stuck (held_low stuck u e)) (q ∙ ap (λ (x : ℕ). every (λ t. eqb (at values (t * N + f.node)) x) c) (held_is stuck u e))

  pub has-held : has_held N f c values ≡ true → HasHeld N f c values
  unfolding has_held
  has-held e = go (is_unknown stuck) refl
    where
      go : (q : Bool) → is_unknown stuck ≡ q → HasHeld N f c values
      go true q = held_nowhere N f c values (unknown_is stuck q)
      go false q = held_all N f c values (λ t h. eqb-true _ _ (every-at has c (or_right (is_unknown stuck) (every has c) e q) t h))

-- ---- open sets

pub no_bytes : (l : List ℕ) → length l ≡ 0 → l ≡ []
no_bytes [] e = refl
no_bytes (x ∷ l) e = absurd (omega arith)

pub slices_fit_says : (N c F : ℕ) (values touched : List ℕ) → work_fits N c F values touched ≡ true
    → (c + F + 1 ≤ most_frames) × (length values ≡ N * (c + F + 1)) × (length touched ≡ N * (c + F + 1))
unfolding work_fits
slices_fit_says N c F values touched e =
    let v = eqb (length values) (N * (c + F + 1)) in
    let m = eqb (length touched) (N * (c + F + 1)) in
    let w = leb (c + F + 1) most_frames in
    let r = and_right w (v && m) e in
    (leb-true _ _ (and_left w (v && m) e), eqb-true _ _ (and_left v m r), eqb-true _ _ (and_right v m r))

-- slices that fit, and the first tally in them
pub ruleset fitting_laws = (slices_fit_says, open_tally)

module _ (net : Net) (f : Fault) (c F : ℕ) (w : Work) (touched : List ℕ) where
  -- a sweep has made a step
  pub following-moved : 0 < w.steps → tried false w.known touched ≡ following net f c F w touched
  unfolding following
  following-moved h = let d : (w.steps ≡ 0 → ⊥) = omega arith in rw (ne_eqb _ _ d)

  -- it has made none, and the effect was followed
  pub following-still : w.steps ≡ 0 → (t : Traced) → t ≡ tracing net (lines_of f) c F (known_in w.known net.size) touched
      → tried (not t.dies) w.known t.touched ≡ following net f c F w touched
  unfolding following
  following-still z t e = rw (eq-eqb _ _ z) (ap (λ (x : Traced). tried (not x.dies) w.known x.touched) e)

module _ (bs : List ℕ) (f : Fault) (c F : ℕ) (values touched : List ℕ) where
  pub opening-swept : work_fits (net_of bs).size c F values touched ≡ true → has_held (net_of bs).size f c values ≡ true
      → (w : Work) → w ≡ swept_once (net_of bs) f c F values
      → following (net_of bs) f c F w touched ≡ opening bs f c F values touched
  unfolding opening
  opening-swept e h w q = rw (e, h) (ap (λ (x : Work). following (net_of bs) f c F x touched) q)

  pub noting-by : (noted : List ℕ) (b : Bool) (k l : List ℕ) → tried b k l ≡ opening bs f c F values touched
      → noting (tried b k l) (cond b (noted_with k c noted) noted) ≡ noting_open bs f c F values touched noted
  unfolding noting_open
  noting-by noted b k l e = ap (λ (t : Tried). noting t (cond t.answer (noted_with t.known c noted) noted)) e
