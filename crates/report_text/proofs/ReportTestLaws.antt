-- The report by its tests: which refusal it prints, or the lines of the marks and the total. Input that is cut off at the buffer's end is refused as it would be whole.
use Rattle.std.proofs.Common.{◌≡◌, ℕ, ◌+◌, ◌*◌, ◌<◌, ◌≤◌, Bool, true, false, cond, ◌&&◌, ltb, leb, List, ◌++◌, length, sym, refl, ap, ◌∙◌, arith, length-append, length-drop, ne_eqb, le-leb, leb-true}
use mathlib.Core.Option.{Option, none, some}
use native.Mathlib.Decide.{dec_le}
use borrow.Author.Tests.{lt-leb}
use lib.ListN.{get_or-append}
use lib.Seq.{drop-append-le}
use Rattle.values.proofs.BoolLaws.{and_left, and_right}
use Rattle.netlist.proofs.NetlistLaws.{read_refused}
use Rattle.netlist.proofs.RefusalLaws.{fails_here, fails_later}
use Rattle.netlist.specs.Answer.{Answer, answered, refusal, refused}
use Rattle.values.specs.Lists.{at}
use Rattle.netlist.specs.Netlist.{net_of, node_count, pin_count, reading, sizes_allowed, most_nodes, most_pins_in_all}
use Rattle.certificate.specs.Certificate.{head_length}
use Rattle.report_text.specs.Lines.{refused_line}
use Rattle.report_text.specs.Report.{buffer_length, given_b, given_f, netlist_in, report, report_lines, report_on, window_tests}

module _ (input : List ℕ) where
  abbrev windowed : Option ℕ → List ℕ
  windowed r = elim r [ some k ↦ refused_line k | none ↦ report_lines (net_of (netlist_in input)) (given_b input) (given_f input) ]

  abbrev read_then : Answer → List ℕ
  read_then r = elim r [ refused k ↦ refused_line k | answered _ ↦ windowed (refusal window_tests input) ]

  abbrev length_then : Bool → List ℕ
  length_then b = elim b [ false ↦ refused_line 1 | true ↦ report_on input ]

  pub report-short : length input < 2 → report input ≡ refused_line 1
  unfolding report
  report-short h = ap length_then (lt-leb 2 (length input) h)

  pub report-read : 2 ≤ length input → (r : Answer) → reading (netlist_in input) ≡ r → report input ≡ read_then r
  unfolding report report_on
  report-read h r e = ap length_then (le-leb 2 (length input) h) ∙ ap read_then e

  pub report-windowed : 2 ≤ length input → {vs : List ℕ} → reading (netlist_in input) ≡ answered vs → (r : Option ℕ) → refusal window_tests input ≡ r → report input ≡ windowed r
  report-windowed h {vs} e r q = report-read h (answered vs) e ∙ ap windowed q

-- the refusal of a netlist that is too long, by its first four bytes
abbrev too_long : List ℕ → ℕ
too_long bs = cond (sizes_allowed (node_count bs) (pin_count bs)) 3 2

sizes_small : (n p : ℕ) → sizes_allowed n p ≡ true → 4 + 5 * n + 2 * p ≤ 53252
unfolding sizes_allowed
sizes_small n p e =
    let r = and_right (ltb 0 n) (leb n most_nodes && leb p most_pins_in_all) e in
    let a = leb-true n most_nodes (and_left (leb n most_nodes) (leb p most_pins_in_all) r) in
    let b = leb-true p most_pins_in_all (and_right (leb n most_nodes) (leb p most_pins_in_all) r) in
    omega arith

long_refused : (bs : List ℕ) → 53252 < length bs → reading bs ≡ refused (too_long bs)
long_refused bs h = go (sizes_allowed (node_count bs) (pin_count bs)) refl
  where
    t₁ : leb 4 (length bs) ≡ true
    t₁ = le-leb 4 (length bs) (omega arith)

    go : (b : Bool) → sizes_allowed (node_count bs) (pin_count bs) ≡ b → reading bs ≡ refused (cond b 3 2)
    go false e = sym (read_refused bs 2 (fails_later t₁ (fails_here e refl)))
    go true e =
        let other : length bs ≡ 4 + 5 * node_count bs + 2 * pin_count bs → ⊥ = λ q. omega (arith, sizes_small (node_count bs) (pin_count bs) e) in
        sym (read_refused bs 3 (fails_later t₁ (fails_later e (fails_here (ne_eqb (length bs) (4 + 5 * node_count bs + 2 * pin_count bs) other) refl))))

-- what is behind a netlist that is too long makes no difference
long_same : (bs rest : List ℕ) → 53252 < length bs → reading (bs ++ rest) ≡ reading bs
long_same bs rest h =
    let g : 53252 < length (bs ++ rest) = simp length-append (omega arith) in
    long_refused (bs ++ rest) g
    ∙ (λ i. refused (cond (sizes_allowed (here 0 (omega arith) i + 256 * here 1 (omega arith) i) (here 2 (omega arith) i + 256 * here 3 (omega arith) i)) 3 2))
    ∙ sym (long_refused bs h)
  where
    here : (k : ℕ) → k < 4 → at (bs ++ rest) k ≡ at bs k
    here k l = get_or-append bs rest 0 k (omega arith)

pub cut_same : (input rest : List ℕ) → length input ≡ buffer_length → report (input ++ rest) ≡ report input
cut_same input rest h =
    let l : 2 ≤ length input = omega arith in
    let n : 2 ≤ length (input ++ rest) = simp length-append (omega arith) in
    let g : 53252 < length (netlist_in input) = simp length-drop (omega arith) in
    let e = long_refused (netlist_in input) g in
    let q = ap reading (drop-append-le 2 input rest l) ∙ long_same (netlist_in input) rest g ∙ e in
    report-read (input ++ rest) n (refused (too_long (netlist_in input))) q ∙ sym (report-read input l (refused (too_long (netlist_in input))) e)

-- N × W above 4,679 gives 12
pub window_limit : (m : ℕ) → leb (head_length + 14 * m) buffer_length ≡ leb m 4679
window_limit m = go (dec_le m 4679)
  where
    go : Dec (m ≤ 4679) → leb (head_length + 14 * m) 65536 ≡ leb m 4679
    go (yes p) = le-leb (head_length + 14 * m) 65536 (omega arith) ∙ sym (le-leb m 4679 p)
    go (no p) =
        let h : 4679 < m = omega arith in
        let o : 65536 < head_length + 14 * m = omega arith in
        lt-leb (head_length + 14 * m) 65536 o ∙ sym (lt-leb m 4679 h)
