-- The room for the numbers of a line.
use Rattle.std.specs.Prelude.{◌≡◌, [], replicate}
use Rattle.grammar.specs.declared.reader.Tables.{Tables}

-- no turns but 0, and no integers
abbrev pub Blank : Tables → Type 0
Blank tables = (tables.turns ≡ replicate 511 0) × (tables.integers.items ≡ [])
