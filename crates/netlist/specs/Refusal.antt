-- 01, "Turned back": the refusals by name, and their numbers.
use Rattle.std.specs.Prelude.{Result, Ok, Err, ℕ}
use Rattle.netlist.specs.declared.refusal.Refusal.{Refusal}
use Rattle.netlist.specs.declared.refusal.Refusal.TheVariants as refusal

abbrev pub number_of_refusal : Refusal → ℕ
number_of_refusal refusal.NoHead = 1
number_of_refusal refusal.SizesNotAllowed = 2
number_of_refusal refusal.LengthWrong = 3
number_of_refusal refusal.UnknownKind = 4
number_of_refusal refusal.PairsApart = 5
number_of_refusal refusal.PinCountUnfit = 6
number_of_refusal refusal.SourceNotAllowed = 7
number_of_refusal refusal.LayoutWrong = 8
number_of_refusal refusal.NoSuchFault = 9
number_of_refusal refusal.WindowTooLong = 10
number_of_refusal refusal.WorkSliceShort = 11
number_of_refusal refusal.CertificateSliceShort = 12
number_of_refusal refusal.SplitOutside = 13
number_of_refusal refusal.StepNotAllowed = 14
number_of_refusal refusal.BranchOpen = 15
number_of_refusal refusal.SlicesUnfit = 16

-- the refusal's number, 0 where nothing is refused
abbrev pub number_said : {A : Type 0} → Result A Refusal → ℕ
number_said (Ok x) = 0
number_said (Err refusal) = number_of_refusal refusal
