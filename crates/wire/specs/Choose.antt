-- A choice by a test. It stays shut in proofs, which go by the laws of proofs/Cases.antt.
use Rattle.std.specs.Prelude.{Bool, true, false}

unfoldable pub choose : {A : Type 0} → Bool → A → A → A
choose true a b = a
choose false a b = b
