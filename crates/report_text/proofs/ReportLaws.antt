-- The turns of a report, one after the other, write the report, and then it is over.
use Rattle.std.proofs.Common.{◌≡◌, ℕ, zero, suc, ◌+◌, ◌*◌, ◌<◌, ◌≤◌, Bool, true, false, cond, ltb, List, [], ◌∷◌, ◌++◌, length, take, sym, refl, ap, ◌∙◌, subst}
use Rattle.std.proofs.Common.{true≢false, append_assoc, append-nil, add-zero, mod-eq_of_lt, mul-le-mul, zero-add, arith, drop_of_length-le, le-leb}
use mathlib.Core.Option.{Option, none, some}
use native.Mathlib.Decide.{dec_le, dec_lt}
use native.Mathlib.Nat.{mod-add-div, sub-zero}
use borrow.Author.Tests.{lt-leb}
use lib.Seq.{sets}
use Rattle.netlist.proofs.RefusalLaws.{FirstFails, fails_here, fails_later, refusal_at, refusal_by}
use Rattle.netlist.proofs.SoundLaws.{Facts, answered-sound, facts, refused-first, sound-size}
use Rattle.netlist.specs.Answer.{Answer, Test, answered, refused}
use Rattle.circuit.specs.Fault.{fault_exists, site_byte}
use Rattle.netlist.specs.Netlist.{Net, net_of, node_count, pin_count, reader_tests, reading, sound, most_nodes, most_pins_in_all}
use Rattle.circuit.specs.declared.fault.Fault.{Fault}
use Rattle.circuit.specs.declared.fault.Site.{Site}
use Rattle.circuit.specs.declared.fault.Site.TheVariants.{Pin, Whole}
use Rattle.finder.proofs.FindingLaws.{all-passed, finding-unsound, short-certificate, too_wide}
use Rattle.search.proofs.FirstLaws.{split_some}
use Rattle.search.proofs.ClosingLaws.{site_few}
use Rattle.search.specs.FinderCall.{FinderCall, finder_call}
use Rattle.finder.specs.Finder.{FinderOutcome, answer_for, bytes_for, finding, searched, find_refused}
use Rattle.sweeps.specs.Splits.{certificate_for}
use Rattle.splits.specs.Split.{split}
use Rattle.search.specs.FirstSplit.{first_split}
use Rattle.certificate.specs.Written.{written, certificate_of, head_bytes}
use Rattle.splits.specs.declared.split.Split.{Split}
use Rattle.fault_list.proofs.FaultListLaws.{exists-node, exists-stuck, fault-count, first-exists, first_rest}
use Rattle.fault_list.proofs.TextLaws.{line_read}
use Rattle.report_text.proofs.ReportTestLaws.{cut_same, report-read, report-short, report-windowed}
use Rattle.report_text.proofs.LineLaws.{mark-short, refused-short, total-short}
use Rattle.report_text.proofs.StageLaws.{StageExists, list_left, rest-left, stage-exists}
use Rattle.fault_list.specs.Faults.{fault_after, faults, faults_of, first_fault, first_of, rest_after}
use Rattle.report_text.specs.Lines.{line_length, mark_line, refused_line, total_line}
use Rattle.report_text.specs.Report.{Mark, frames_given, given_b, given_f, mark, mark_lines, marks_among, netlist_in, report, report_lines, window_tests}
use Rattle.report_text.specs.Turns.{Made, ProgramBuffers, Slices, WritesReport, begun, fault_turn, is_over, made, made_for, one_more, progress, progress_from, stage_at, turn_in, written_from}
use Rattle.report_text.specs.declared.progress.Progress.{Progress}
use Rattle.report_text.specs.declared.progress.Stage.{Stage}
use Rattle.report_text.specs.declared.progress.Stage.TheVariants.{Counted, Looking, Over}
use Rattle.knowledge.specs.Window.{most_frames}
use Rattle.certificate.specs.Certificate.{head_length}

-- the tests' numbers are at most b, and so is that of the one that fails
abbrev NumbersTo : {A : Type 0} → ℕ → List (Test A) → Type 0
NumbersTo b [] = Unit {0}
NumbersTo b (t ∷ ts) = (t.number ≤ b) × NumbersTo b ts

fails_to : {A : Type 0} (b : ℕ) {a : A} {k : ℕ} (ts : List (Test A)) → NumbersTo b ts → FirstFails a k ts → k ≤ b
fails_to {A = A} b {a = a} {k = k} [] p x'' = elim x'' [ ]
fails_to b (t ∷ ts) p (fails_here f e) = subst (λ (k : ℕ). k ≤ b) e p.0
fails_to b (t ∷ ts) p (fails_later q f) = fails_to b ts p.1 f

reader_to : (bs : List ℕ) (k : ℕ) → reading bs ≡ refused k → k ≤ 7
reader_to bs k e =
    fails_to 7 reader_tests (omega arith, (omega arith, (omega arith, (omega arith, (omega arith, (omega arith, (omega arith, tt))))))) (refused-first bs k e)

-- a sound netlist has 2 × (N + P) faults, and so not more than this
abbrev most_faults : ℕ
most_faults = 2 * (most_nodes + most_pins_in_all)

-- their count does not wrap
counts_on : (k : ℕ) → k < most_faults → one_more k ≡ k + 1
counts_on k h = mod-eq_of_lt (omega arith)

-- the sites of faults that exist are written with a byte
site_small : (nb : List ℕ) (f : Fault) → reading nb ≡ sound (node_count nb) (pin_count nb) → fault_exists (net_of nb) f ≡ true → site_byte f.site ≤ 255
site_small nb f e h = go f.site refl
  where
    go : (s : Site) → f.site ≡ s → site_byte s ≤ 255
    go Whole q = omega arith
    go (Pin k) q = omega (arith, site_few nb f e h k q)

-- a stage that was reached by looking on is not over
open_stage : (net : Net) (f : Fault) → is_over (stage_at net f) ≡ false
unfolding stage_at
open_stage net f = go (ltb f.node net.size)
  where
    go : (b : Bool) → is_over (cond b (Looking f) Counted) ≡ false
    go true = refl
    go false = refl

module _ (input : List ℕ) where
  abbrev nb : List ℕ
  nb = netlist_in input

  abbrev net : Net
  net = net_of nb

  abbrev B : ℕ
  B = given_b input

  abbrev F : ℕ
  F = given_f input

  -- the finder's call for a fault, on slices that hold s
  abbrev call : Fault → Slices → FinderCall
  call f s = finder_call nb f B F s.first s.second s.certificate

  -- what a turn makes of the finder's outcome
  abbrev makes : Fault → ℕ → ℕ → FinderOutcome → Made
  makes f a b o = made_for net f a b o.certificate o.answer

  makes-refused : (f : Fault) (s : Slices) (a b k : ℕ) → finding (call f s) ≡ find_refused k (call f s) → makes f a b (finding (call f s)) ≡ made Over a b (refused_line k)
  unfolding made_for
  makes-refused f s a b k e = ap (makes f a b) e

  -- by the first split whose branches close, or none
  abbrev makes_by : Fault → Slices → ℕ → ℕ → Option Split → Made
  makes_by f s a b x = made_for net f a b (written (bytes_for net f F x) s.certificate) (answer_for net f F x)

  makes-searched : (f : Fault) (s : Slices) (a b : ℕ) → finding (call f s) ≡ searched (call f s) → makes f a b (finding (call f s)) ≡ makes_by f s a b (first_split net f B F)
  unfolding searched
  makes-searched f s a b e = ap (makes f a b) e

  makes_none : (f : Fault) (s : Slices) (a b : ℕ) → makes_by f s a b none ≡ made (stage_at net (fault_after net f)) a (one_more b) []
  unfolding made_for answer_for bytes_for
  makes_none f s a b = refl

  makes_some : (f : Fault) (s : Slices) (a b : ℕ) (x : Split) → makes_by f s a b (some x) ≡ made (stage_at net (fault_after net f)) (one_more a) (one_more b) (mark_line f x)
  unfolding made_for answer_for bytes_for certificate_for certificate_of head_bytes
  makes_some f s a b x = ap (λ (n : ℕ). made (stage_at net (fault_after net f)) (one_more a) (one_more b) (mark_line f (split x.c x.frame n))) (mod-add-div x.node 256)

  module _ (S : ℕ → Slices) (room : (i : ℕ) → ProgramBuffers (S i)) where
    -- n turns, from turn i on, write the text, and then the report is over
    abbrev Ends : ℕ → ℕ → Progress → List ℕ → Type 0
    Ends i n p text = (written_from input S i n p ≡ text) × ((progress_from input S i n p).stage ≡ Over)

    abbrev reached : Made → Progress
    reached d = progress d.stage d.marks d.faults (length d.line)

    -- what is written by a turn that makes d, and by those that follow
    abbrev writes : ℕ → ℕ → Made → List ℕ
    writes i n d = take (length d.line) (sets (S i).line 0 d.line) ++ written_from input S (i + 1) n (reached d)

    writes_line : (i n : ℕ) (d : Made) (text : List ℕ) → length d.line ≤ line_length → Ends (i + 1) n (reached d) text → writes i n d ≡ d.line ++ text
    writes_line i n d text h e =
        let g : length d.line ≤ length (S i).line = omega (arith, (room i).line) in
        ap (λ (r : List ℕ). r ++ written_from input S (i + 1) n (reached d)) (line_read d.line (S i).line g) ∙ ap (λ (r : List ℕ). d.line ++ r) e.0

    look : (i n : ℕ) (f : Fault) (a b j : ℕ) (d : Made) (text : List ℕ) → makes f a b (finding (call f (S i))) ≡ d → length d.line ≤ line_length
        → Ends (i + 1) n (reached d) text → Ends i (suc n) (progress (Looking f) a b j) (d.line ++ text)
    unfolding written_from progress_from turn_in fault_turn
    look i n f a b j d text q h e =
        (ap (writes i n) q ∙ writes_line i n d text h e, ap (λ (m : Made). (progress_from input S (i + 1) n (reached m)).stage) q ∙ e.1)

    -- the last line
    total : (i a b j : ℕ) → a < 4294967296 → b < 4294967296 → Ends i 1 (progress Counted a b j) (total_line a b)
    unfolding written_from progress_from turn_in
    total i a b j h g =
        (writes_line i 0 (made Over a b (total_line a b)) [] (total-short a b h g) (refl, refl) ∙ append-nil (total_line a b), refl)

    -- a refusal
    refusal-line : (i : ℕ) (f : Fault) (a b j k : ℕ) → k < 4294967296 → finding (call f (S i)) ≡ find_refused k (call f (S i)) → Ends i 1 (progress (Looking f) a b j) (refused_line k)
    unfolding written_from progress_from
    refusal-line i f a b j k h e =
        subst (λ (r : List ℕ). Ends i 1 (progress (Looking f) a b j) r) (append-nil (refused_line k))
        (look i 0 f a b j (made Over a b (refused_line k)) [] (makes-refused f (S i) a b k e) (refused-short k h) (refl, refl))

  -- the marks of one fault more
  abbrev added : Fault → Option Split → List Mark → List Mark
  added f none ms = ms
  added f (some s) ms = mark f s ∷ ms

  marks_more : (f : Fault) (fs : List Fault) → marks_among net B F (f ∷ fs) ≡ added f (first_split net f B F) (marks_among net B F fs)
  unfolding marks_among
  marks_more f fs = go (first_split net f B F)
    where
      go : (x : Option Split) → ◌≡◌ {A = List Mark} (elim x [ some s ↦ mark f s ∷ marks_among net B F fs | none ↦ marks_among net B F fs ]) (added f x (marks_among net B F fs))
      go none = refl
      go (some s) = refl

  -- the lines of marks, and the total
  abbrev text : List Mark → ℕ → ℕ → List ℕ
  text ms k m = mark_lines ms ++ total_line k m

  text_more : (f : Fault) (s : Split) (ms : List Mark) (k m : ℕ) → mark_line f s ++ text ms k m ≡ text (mark f s ∷ ms) k m
  unfolding mark_lines
  text_more f s ms k m = sym (append_assoc (mark_line f s) (mark_lines ms) (total_line k m))

  -- a sound netlist whose windows pass the tests
  module _ (e : reading nb ≡ sound (node_count nb) (pin_count nb)) (narrow : frames_given input ≤ most_frames) (fits : head_length + 14 * (node_count nb * frames_given input) ≤ 65536) where
    of_sound : Facts nb (node_count nb) (pin_count nb)
    of_sound = facts nb (node_count nb) (pin_count nb) e

    size_is : node_count nb ≡ net.size
    size_is = sound-size nb (node_count nb) (pin_count nb) e

    window-small : node_count nb * frames_given input ≤ most_nodes * most_frames
    window-small = mul-le-mul of_sound.few_nodes narrow

    searches : (f : Fault) (s : Slices) → ProgramBuffers s → fault_exists net f ≡ true → finding (call f s) ≡ searched (call f s)
    searches f s r h =
        all-passed (call f s) (node_count nb) (pin_count nb) e h narrow (omega (arith, window-small, r.first)) (omega (arith, window-small, r.second)) (omega (arith, fits, r.certificate))

    mark-fits : (f : Fault) (s : Split) → fault_exists net f ≡ true → first_split net f B F ≡ some s → length (mark_line f s) ≤ line_length
    mark-fits f s h q =
        let i = (split_some net f F B s q).within in
        let n = exists-node net f h in
        let u = exists-stuck net f h in
        let t = site_small nb f e h in
        let b = of_sound.few_nodes in
        mark-short f s (omega (arith, size_is)) (omega arith) (omega arith) (omega (arith, i.0)) (omega (arith, i.2, size_is)) (omega (arith, i.0, i.1))

    module _ (S : ℕ → Slices) (room : (i : ℕ) → ProgramBuffers (S i)) where
      -- from a stage on, with a marks and b faults counted before, the marks of the m faults that are left and the total are written
      abbrev Lines : ℕ → Type 0
      Lines m =
          (i : ℕ) (st : Stage) (a b j : ℕ) → StageExists net st → is_over st ≡ false → length (list_left net st) ≡ m → a ≤ b → b + m ≤ most_faults
          → Ends S room i (suc m) (progress st a b j) (text (marks_among net B F (list_left net st)) (a + length (marks_among net B F (list_left net st))) (b + m))

      lines_none : Lines 0
      unfolding marks_among mark_lines
      lines_none i Over a b j ex live l ab few = absurd (true≢false live)
      lines_none i Counted a b j ex live l ab few = rw (add-zero, add-zero) (total S room i a b j (omega arith) (omega arith))
      lines_none i (Looking f) a b j ex live l ab few = absurd (omega arith)

      lines_more : (m : ℕ) → Lines m → Lines (suc m)
      lines_more m r i Over a b j ex live l ab few = absurd (true≢false live)
      lines_more m r i Counted a b j ex live l ab few = absurd (omega arith)
      lines_more m r i (Looking f) a b j ex live l ab few = go (first_split net f B F) refl
        where
          next : Stage
          next = stage_at net (fault_after net f)

          rest_is : rest_after net f ≡ list_left net next
          rest_is = rest-left net f ex

          shorter : length (list_left net next) ≡ m
          shorter = omega (arith, ap (λ (fs : List Fault). length fs) rest_is)

          marks : List Mark
          marks = marks_among net B F (list_left net next)

          later : (a b j : ℕ) → a ≤ b → b + m ≤ most_faults → Ends S room (i + 1) (suc m) (progress next a b j) (text marks (a + length marks) (b + m))
          later a b j = r (i + 1) next a b j (stage-exists net f ex) (open_stage net (fault_after net f)) shorter

          all-marks : (x : Option Split) → first_split net f B F ≡ x → marks_among net B F (f ∷ rest_after net f) ≡ added f x marks
          all-marks x q = marks_more f (rest_after net f) ∙ (λ i. added f (q i) (marks_among net B F (rest_is i)))

          search_made_lem : (x : Option Split) → first_split net f B F ≡ x → makes f a b (finding (call f (S i))) ≡ makes_by f (S i) a b x
          search_made_lem x q = makes-searched f (S i) a b (searches f (S i) (room i) ex) ∙ ap (makes_by f (S i) a b) q

          go : (x : Option Split) → first_split net f B F ≡ x
              → Ends S room i (suc (suc m)) (progress (Looking f) a b j) (text (marks_among net B F (f ∷ rest_after net f)) (a + length (marks_among net B F (f ∷ rest_after net f))) (b + suc m))
          go none q =
              let d : one_more b ≡ b + 1 = counts_on b (omega arith) in
              let c : one_more b + m ≡ b + suc m = omega arith in
              rw (all-marks none q, ← c)
              (look S room i (suc m) f a b j (made next a (one_more b) []) (text marks (a + length marks) (one_more b + m))
              (search_made_lem none q ∙ makes_none f (S i) a b)
              (omega arith)
              (later a (one_more b) 0 (omega arith) (omega arith)))
          go (some s) q =
              let d : one_more b ≡ b + 1 = counts_on b (omega arith) in
              let c : one_more b + m ≡ b + suc m = omega arith in
              let g : one_more a ≡ a + 1 = counts_on a (omega arith) in
              let k : one_more a + length marks ≡ a + suc (length marks) = omega arith in
              rw (all-marks (some s) q, ← c, ← k, ← text_more f s marks (one_more a + length marks) (one_more b + m))
              (look S room i (suc m) f a b j (made next (one_more a) (one_more b) (mark_line f s)) (text marks (one_more a + length marks) (one_more b + m))
              (search_made_lem (some s) q ∙ makes_some f (S i) a b s)
              (mark-fits f s ex q)
              (later (one_more a) (one_more b) (length (mark_line f s)) (omega arith) (omega arith)))

      lines_from : (m : ℕ) → Lines m
      lines_from zero = lines_none
      lines_from (suc m) = lines_more m (lines_from m)

      listed : Ends S room 0 (suc (length (faults net))) (begun input) (report_lines net B F)
      unfolding begun report_lines
      listed =
          let pos : 0 < net.size = omega (arith, of_sound.some_node, size_is) in
          let all : first_of net 0 ∷ rest_after net (first_of net 0) ≡ faults net = sym (first_rest net 0 pos) ∙ ap (faults_of net 0) (sub-zero net.size) in
          let few : length (faults net) ≤ most_faults = omega (arith, fault-count nb of_sound, of_sound.few_nodes, of_sound.few_pins) in
          subst (λ (fs : List Fault). Ends S room 0 (suc (length (faults net))) (begun input) (text (marks_among net B F fs) (length (marks_among net B F fs)) (length (faults net)))) all
          (rw (zero-add, zero-add) at
          (lines_from (length (faults net)) 0 (Looking (first_fault net)) 0 0 0 (first-exists net 0 pos) refl (ap (λ (fs : List Fault). length fs) all) (omega arith) (omega arith)))

  -- the beginning of a report that is refused with k
  refused-writes : (k : ℕ) → k < 4294967296 → ((s : Slices) → ProgramBuffers s → finding (call (first_fault net) s) ≡ find_refused k (call (first_fault net) s)) → report input ≡ refused_line k
      → WritesReport input (begun input)
  unfolding begun
  refused-writes k h q r =
      record {
        turns = 1;
        written = λ S room. (refusal-line S room 0 (first_fault net) 0 0 0 k h (q (S 0) (room 0))).0 ∙ sym r;
        ended = λ S room. (refusal-line S room 0 (first_fault net) 0 0 0 k h (q (S 0) (room 0))).1;
        whole = cut_same input;
      }

  read_none : length input < 2 → reading nb ≡ refused 1
  unfolding reading
  read_none h = let g : length input ≤ 2 = omega arith in rw (drop_of_length-le input g)

  -- THE law of the report: its turns, from the beginning on, write it
  pub begun_writes : WritesReport input (begun input)
  begun_writes = short (dec_lt (length input) 2)
    where
      first_there : reading nb ≡ sound (node_count nb) (pin_count nb) → fault_exists net (first_fault net) ≡ true
      first_there e = first-exists net 0 (omega (arith, (facts nb (node_count nb) (pin_count nb) e).some_node, sound-size nb (node_count nb) (pin_count nb) e))

      room_there : (e : reading nb ≡ sound (node_count nb) (pin_count nb)) (narrow : frames_given input ≤ most_frames) (s : Slices) → ProgramBuffers s
          → (node_count nb * frames_given input ≤ length s.first) × (node_count nb * frames_given input ≤ length s.second)
      room_there e narrow s r =
          let h : node_count nb * frames_given input ≤ most_nodes * most_frames = mul-le-mul (facts nb (node_count nb) (pin_count nb) e).few_nodes narrow in
          (omega (arith, r.first), omega (arith, r.second))

      certificate : 2 ≤ length input → (e : reading nb ≡ sound (node_count nb) (pin_count nb)) (narrow : frames_given input ≤ most_frames)
          → Dec (head_length + 14 * (node_count nb * frames_given input) ≤ 65536) → WritesReport input (begun input)
      certificate l e narrow (yes p) =
          let size = sound-size nb (node_count nb) (pin_count nb) e in
          let p' : head_length + 14 * (net.size * frames_given input) ≤ 65536 = subst (λ (n : ℕ). head_length + 14 * (n * frames_given input) ≤ 65536) size p in
          let r = report-windowed input l e none
          (refusal_by window_tests input
          (le-leb (frames_given input) most_frames narrow, (le-leb (head_length + 14 * (net.size * frames_given input)) 65536 p', tt))) in
          record {
            turns = suc (length (faults net));
            written = λ S room. (listed e narrow p S room).0 ∙ sym r;
            ended = λ S room. (listed e narrow p S room).1;
            whole = cut_same input;
          }
      certificate l e narrow (no p) =
          let size = sound-size nb (node_count nb) (pin_count nb) e in
          let o : 65536 < head_length + 14 * (node_count nb * frames_given input) = omega arith in
          let o' : 65536 < head_length + 14 * (net.size * frames_given input) = subst (λ (n : ℕ). 65536 < head_length + 14 * (n * frames_given input)) size o in
          refused-writes 12 (omega arith)
          (λ s r.
          short-certificate (call (first_fault net) s) (node_count nb) (pin_count nb) e (first_there e) narrow (room_there e narrow s r).0 (room_there e narrow s r).1
          (omega (arith, r.certificate)))
          (report-windowed input l e (some 12)
          (refusal_at window_tests input 12
          (fails_later (le-leb (frames_given input) most_frames narrow) (fails_here (lt-leb (head_length + 14 * (net.size * frames_given input)) 65536 o') refl))))

      window : 2 ≤ length input → reading nb ≡ sound (node_count nb) (pin_count nb) → Dec (frames_given input ≤ most_frames) → WritesReport input (begun input)
      window l e (yes p) = certificate l e p (dec_le (head_length + 14 * (node_count nb * frames_given input)) 65536)
      window l e (no p) =
          let o : most_frames < frames_given input = omega arith in
          refused-writes 10 (omega arith) (λ s r. too_wide (call (first_fault net) s) (node_count nb) (pin_count nb) e (first_there e) o)
          (report-windowed input l e (some 10) (refusal_at window_tests input 10 (fails_here (lt-leb (frames_given input) most_frames o) refl)))

      read : 2 ≤ length input → (r : Answer) → reading nb ≡ r → WritesReport input (begun input)
      read l (refused k) e =
          let h = reader_to nb k e in
          refused-writes k (omega arith) (λ s r. finding-unsound (call (first_fault net) s) k e) (report-read input l (refused k) e)
      read l (answered vs) e = window l (answered-sound nb vs e) (dec_le (frames_given input) most_frames)

      short : Dec (length input < 2) → WritesReport input (begun input)
      short (yes p) = refused-writes 1 (omega arith) (λ s r. finding-unsound (call (first_fault net) s) 1 (read_none p)) (report-short input p)
      short (no p) = read (omega arith) (reading nb) refl
