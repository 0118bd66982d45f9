-- A name by its bytes. Assumes nothing.
use Rattle.std.specs.Prelude.{ℕ, List, string_bytes}
use Rattle.text.specs.declared.name.Name.{Name}

abbrev pub name_bytes : Name → List ℕ
name_bytes n = string_bytes n.text
