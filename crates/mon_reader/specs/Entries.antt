-- Ours, in words of mon_syntax/specs/Spelled.
-- The last phase by what a text has of a `main`.
use Rattle.std.specs.Prelude.{Option, Some, None, if◌then◌else◌}
use Rattle.c_model.specs.Places.{first_place}
use Rattle.c_syntax.specs.Programs.{PlainRefusal}
use Rattle.mon_syntax.specs.Parsed.{ParsedFunction}
use Rattle.mon_syntax.specs.Spelled.{is_main, no_main}
use Rattle.mon_reader.specs.declared.entry.FoundMain.{FoundMain}
use Rattle.mon_reader.specs.declared.entry.FoundMain.TheVariants.{Missing, Wrong, Right}

abbrev pub found_main : Option ParsedFunction → FoundMain
found_main None = Missing
found_main (Some f) = if is_main f then Right else Wrong f.name.place

-- the refusal, where globals are refused so, or not
abbrev pub refusal_by : Option PlainRefusal → FoundMain → Option PlainRefusal
refusal_by room Missing = Some (no_main first_place)
refusal_by (Some r) (Wrong at) = Some r
refusal_by (Some r) Right = Some r
refusal_by None (Wrong at) = Some (no_main at)
refusal_by None Right = None
