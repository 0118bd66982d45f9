-- What is asked of the declared events beside each other. Assumes nothing.
use Rattle.std.specs.Prelude.{Bool, true, false, not, ◌&&◌, ◌||◌, List, vec_items}
use Rattle.std.specs.List.{list_all}
use Rattle.std.specs.Str.{bytes_eq}
use Rattle.text.specs.Lists.{apart}
use Rattle.text.specs.Names.{name_bytes}
use Rattle.osl.specs.declared.event.Class.{Class}
use Rattle.osl.specs.declared.event.Class.TheVariants.{Use, Other}
use Rattle.osl.specs.declared.event.Event.{Event}
use Rattle.osl.specs.declared.event.Param.{Param}
use Rattle.osl.specs.Matching.{same_event?}

abbrev pub same_class : Class → Class → Bool
same_class Use Use = true
same_class Use Other = false
same_class Other Use = false
same_class Other Other = true

-- Two events clash that are the same, or that have one name and two classes.
abbrev pub events_clash : Event → Event → Bool
events_clash e d = same_event? e d || (bytes_eq (name_bytes e.name) (name_bytes d.name) && not (same_class e.class d.class))

-- Two parameters clash that have one name.
abbrev pub params_clash : Param → Param → Bool
params_clash p q = bytes_eq (name_bytes p.name) (name_bytes q.name)

-- An event names no parameter twice.
abbrev pub params_once : Event → Bool
params_once e = apart params_clash (vec_items e.params)

abbrev pub events_apart : List Event → Bool
events_apart events = apart events_clash events && list_all params_once events
