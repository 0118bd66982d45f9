-- What is asked of an event or a row by itself. Assumes nothing.
use Rattle.std.specs.Prelude.{ℕ, Bool, true, not, ◌&&◌, vec_items, vec_len, nat_le, nat_lt}
use Rattle.std.specs.List.{list_any}
use Rattle.std.specs.Str.{bytes_eq}
use Rattle.text.specs.Names.{name_bytes}
use Rattle.osl.specs.declared.event.Event.{Event}
use Rattle.osl.specs.declared.event.Param.{Param}
use Rattle.osl.specs.declared.row.Row.{Row}
use Rattle.osl.specs.declared.row.Row.TheVariants.{Until, Always, After, Within, During, Most, MostUntil, Answer, Names, Values}
use Rattle.osl.specs.Osl.{Word}

abbrev pub most_params : ℕ
most_params = 4

-- An event has at most four parameters.
abbrev pub event_formed : Event → Bool
event_formed e = nat_le (vec_len e.params) most_params

-- A permit names something that is permitted.
abbrev pub row_formed : Row → Bool
row_formed (Until a b) = true
row_formed (Always a) = true
row_formed (After n a) = true
row_formed (Within n a) = true
row_formed (During n a) = true
row_formed (Most l c) = true
row_formed (MostUntil l c b) = true
row_formed (Answer n a b) = true
row_formed (Names p) = nat_lt 0 (vec_len p.names)
row_formed (Values p) = nat_lt 0 (vec_len p.values)

abbrev pub most_number : ℕ
most_number = 1000

-- A row's number is at most 1,000, and a number of steps in which something is due at least 1.
abbrev pub row_in_range : Row → Bool
row_in_range (Until a b) = true
row_in_range (Always a) = true
row_in_range (After n a) = nat_le n most_number
row_in_range (Within n a) = nat_lt 0 n && nat_le n most_number
row_in_range (During n a) = nat_lt 0 n && nat_le n most_number
row_in_range (Most l c) = nat_le l most_number
row_in_range (MostUntil l c b) = nat_le l most_number
row_in_range (Answer n a b) = nat_lt 0 n && nat_le n most_number
row_in_range (Names p) = true
row_in_range (Values p) = true

-- a parameter of this name
abbrev pub called : Word → Param → Bool
called w p = bytes_eq w (name_bytes p.name)

-- The parameter whose values are permitted is not fixed by the others.
abbrev pub row_free : Row → Bool
row_free (Until a b) = true
row_free (Always a) = true
row_free (After n a) = true
row_free (Within n a) = true
row_free (During n a) = true
row_free (Most l c) = true
row_free (MostUntil l c b) = true
row_free (Answer n a b) = true
row_free (Names p) = true
row_free (Values p) = not (list_any (called (name_bytes p.param)) (vec_items p.having))
