-- The numbers of the faults, and how they are printed. Assumes nothing.
use Rattle.std.specs.Prelude.{ℕ, List, codes}
use Rattle.expression.specs.declared.fault.Fault.{Fault}
use Rattle.expression.specs.declared.fault.Fault.TheVariants.{Bytes, Form}

abbrev pub fault_number : Fault → ℕ
fault_number Bytes = 11
fault_number Form = 18

abbrev pub fault_text : Fault → List ℕ
fault_text Bytes = codes "it is not words between single spaces"
fault_text Form = codes "it is not one whole expression of at most 15 words"
