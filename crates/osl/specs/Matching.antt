-- Which declared events a row speaks of. Assumes nothing.
use Rattle.std.specs.Prelude.{ℕ, zero, suc, Bool, true, false, not, ◌&&◌, List, [], ◌∷◌, vec_items}
use Rattle.std.specs.Str.{bytes_eq}
use Rattle.std.specs.List.{list_any}
use Rattle.text.specs.Names.{name_bytes}
use Rattle.osl.specs.declared.event.Class.{Class}
use Rattle.osl.specs.declared.event.Class.TheVariants.{Use, Other}
use Rattle.osl.specs.declared.event.Event.{Event}
use Rattle.osl.specs.declared.event.Pattern.{Pattern}
use Rattle.osl.specs.declared.row.PermittedNames.{PermittedNames}
use Rattle.osl.specs.declared.row.PermittedValues.{PermittedValues}
use Rattle.osl.specs.Osl.{Word, Params, has, within_params, refines?}
use Rattle.osl.specs.Terms.{words, pairs, as_event, as_pattern}

-- The places 0 to n − 1, and which of them have an event that is chosen.
abbrev pub chosen : (Event → Bool) → ℕ → List Event → List Bool
chosen p zero es = []
chosen p (suc n) [] = false ∷ chosen p n []
chosen p (suc n) (e ∷ es) = p e ∷ chosen p n es

-- a pattern chooses the events that refine it
abbrev pub matches : Pattern → Event → Bool
matches p e = refines? (as_event e) (as_pattern p)

-- the event has the parameter with the value
abbrev pub carries : Event → Word × Word → Bool
carries e p = has (pairs (vec_items e.params)) p

-- one event: the same name, and the same parameters in any order
abbrev pub same_event? : Event → Event → Bool
same_event? e f =
    bytes_eq (name_bytes e.name) (name_bytes f.name) &&
    (within_params (pairs (vec_items f.params)) (pairs (vec_items e.params)) &&
    within_params (pairs (vec_items e.params)) (pairs (vec_items f.params)))

abbrev pub is_use : Class → Bool
is_use Use = true
is_use Other = false

abbrev pub listed : List Word → Word → Bool
listed ws w = list_any (bytes_eq w) ws

-- Permitted names forbid the uses that have the parameters and another name.
abbrev pub names_forbid : PermittedNames → Event → Bool
names_forbid p e =
    is_use e.class &&
    (not (listed (words (vec_items p.names)) (name_bytes e.name)) &&
    within_params (pairs (vec_items p.having)) (pairs (vec_items e.params)))

-- the parameter, with another value
abbrev pub stray_pair : Word → List Word → Word × Word → Bool
stray_pair param values p = bytes_eq param p.0 && not (listed values p.1)

abbrev pub strays : Word → List Word → Params → Bool
strays param values ps = list_any (stray_pair param values) ps

-- Permitted values forbid the events of the name that have the parameters and another value of the one.
abbrev pub values_forbid : PermittedValues → Event → Bool
values_forbid p e =
    bytes_eq (name_bytes p.event) (name_bytes e.name) &&
    (within_params (pairs (vec_items p.having)) (pairs (vec_items e.params)) &&
    strays (name_bytes p.param) (words (vec_items p.values)) (pairs (vec_items e.params)))
