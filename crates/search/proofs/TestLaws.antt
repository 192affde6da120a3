-- Laws of the finder's tests: which is the first that fails, and when all pass.
use mathlib.Core.Bool.{Bool, ◌&&◌, cond, false, true}
use mathlib.Core.Path.{◌≡◌, ap, refl}
use Prim.Native.Nat.{◌*◌, ◌+◌, ◌<◌, ◌≤◌, ℕ}
use borrow.Author.Tests.{le-leb, leb-false, leb-true, lt-leb}
use lib.Dec.{leb}
use lib.ListN.{length}
use native.Mathlib.Omega.{arith}
use Rattle.std.specs.Prelude.{Err, Ok, Result}
use Rattle.netlist.specs.declared.refusal.Refusal.{Refusal}
use Rattle.netlist.specs.declared.refusal.Refusal.TheVariants.{WindowTooLong}
use Rattle.netlist.proofs.RefusalLaws.{FirstFails, Passed, fails_here, fails_later}
use Rattle.netlist.proofs.SoundLaws.{sound-size}
use Rattle.circuit.specs.Fault.{fault_exists}
use Rattle.netlist.specs.Netlist.{net_of, reading, sound}
use Rattle.search.specs.FinderCall.{FinderCall, finder_tests, frames, largest_window}
use Rattle.knowledge.specs.Window.{most_frames}
use Rattle.certificate.specs.Certificate.{head_length}
use Rattle.certificate.specs.Inner.Room.{slices_number}

-- the frames of the window of c: how many there are, or that there are too many
module _ (c f : ℕ) where
  abbrev counted : Bool → Result ℕ Refusal
  counted t = cond t (Ok (c + f + 1)) (Err WindowTooLong)

  pub frames_given : (w : ℕ) → Ok w ≡ cond (leb (c + f + 1) most_frames) (Ok (c + f + 1)) (Err WindowTooLong) → (w ≡ c + f + 1) × (c + f + 1 ≤ most_frames)
  frames_given w e = by (leb (c + f + 1) most_frames) refl e
    where
      by : (t : Bool) → leb (c + f + 1) most_frames ≡ t → Ok w ≡ counted t → (w ≡ c + f + 1) × (c + f + 1 ≤ most_frames)
      by true h e = (cc, leb-true _ _ h)
      by false h e = absurd (let z : ◌≡◌ {A = ℕ} 0 1 = cc in omega arith)

  pub frames_refused : (r : Refusal) → Err r ≡ cond (leb (c + f + 1) most_frames) (Ok (c + f + 1)) (Err WindowTooLong) → (r ≡ WindowTooLong) × (most_frames < c + f + 1)
  frames_refused r e = by (leb (c + f + 1) most_frames) refl e
    where
      by : (t : Bool) → leb (c + f + 1) most_frames ≡ t → Err r ≡ counted t → (r ≡ WindowTooLong) × (most_frames < c + f + 1)
      by true h e = absurd (let z : ◌≡◌ {A = ℕ} 0 1 = cc in omega arith)
      by false h e = (cc, leb-false _ _ h)

-- The tests of a sound netlist of n nodes, one after the other. n × W is the size of the window.
module _ (a : FinderCall) (n p : ℕ) (e : reading a.netlist ≡ sound n p) where
  pub window-size : n * frames a ≡ largest_window a
  window-size = ap (λ (x : ℕ). x * frames a) (sound-size a.netlist n p e)

  pub no_fault : fault_exists (net_of a.netlist) a.fault ≡ false → FirstFails a 9 finder_tests
  no_fault t = fails_here t refl

  module _ (t₉ : fault_exists (net_of a.netlist) a.fault ≡ true) where
    pub too_wide : most_frames < frames a → FirstFails a 10 finder_tests
    too_wide t = fails_later t₉ (fails_here (lt-leb (frames a) most_frames t) refl)

    module _ (w : frames a ≤ most_frames) where
      t₁₀ : leb (frames a) most_frames ≡ true
      t₁₀ = le-leb (frames a) most_frames w

      pub short-first : length a.first < n * frames a → FirstFails a 11 finder_tests
      short-first t =
          let h : length a.first < largest_window a = omega (arith, window-size) in
          let f : (leb (largest_window a) (length a.first) && leb (largest_window a) (length a.second)) ≡ false = rw (lt-leb (largest_window a) (length a.first) h) in
          fails_later t₉ (fails_later t₁₀ (fails_here f refl))

      module _ (v : n * frames a ≤ length a.first) where
        fits-first : leb (largest_window a) (length a.first) ≡ true
        fits-first = le-leb (largest_window a) (length a.first) (omega (arith, window-size))

        pub short-second : length a.second < n * frames a → FirstFails a 11 finder_tests
        short-second t =
            let h : length a.second < largest_window a = omega (arith, window-size) in
            let f : (leb (largest_window a) (length a.first) && leb (largest_window a) (length a.second)) ≡ false = rw (fits-first, lt-leb (largest_window a) (length a.second) h) in
            fails_later t₉ (fails_later t₁₀ (fails_here f refl))

        module _ (x : n * frames a ≤ length a.second) where
          t₁₁ : (leb (largest_window a) (length a.first) && leb (largest_window a) (length a.second)) ≡ true
          t₁₁ = rw fits-first (le-leb (largest_window a) (length a.second) (omega (arith, window-size)))

          pub short-certificate : length a.certificate < head_length + 14 * (n * frames a) → FirstFails a 12 finder_tests
          short-certificate t =
              let h : length a.certificate < head_length + 14 * largest_window a = omega (arith, window-size) in
              fails_later t₉ (fails_later t₁₀ (fails_later t₁₁ (fails_here (lt-leb (head_length + 14 * largest_window a) (length a.certificate) h) refl)))

          pub all-passed : head_length + 14 * (n * frames a) ≤ length a.certificate → Passed finder_tests a
          all-passed t =
              let h : head_length + 14 * largest_window a ≤ length a.certificate = omega (arith, window-size) in
              (t₉, (t₁₀, (t₁₁, (le-leb (head_length + 14 * largest_window a) (length a.certificate) h, tt))))

      -- a slice that is too short, by its number
      pub short-slices : (k : ℕ) → k ≡ slices_number (n * frames a) (length a.first) (length a.second) (length a.certificate) → (k ≡ 0 → ⊥) → FirstFails a k finder_tests
      short-slices k h z = by (leb size (length a.first)) (leb size (length a.second)) (leb (head_length + 14 * size) (length a.certificate)) refl refl refl h
        where
          size : ℕ
          size = n * frames a

          by : (t u s : Bool) → leb size (length a.first) ≡ t → leb size (length a.second) ≡ u → leb (head_length + 14 * size) (length a.certificate) ≡ s
              → k ≡ cond (t && u) (cond s 0 12) 11 → FirstFails a k finder_tests
          by false u s p q r h = rw h (short-first (leb-false _ _ p))
          by true false s p q r h = rw h (short-second (leb-true _ _ p) (leb-false _ _ q))
          by true true false p q r h = rw h (short-certificate (leb-true _ _ p) (leb-true _ _ q) (leb-false _ _ r))
          by true true true p q r h = absurd (z h)
