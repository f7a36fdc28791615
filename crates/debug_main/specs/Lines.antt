-- The line of a verdict.
use Rattle.std.specs.Prelude.{◌^◌, ◌-◌, ◌++◌, ◌∷◌, [], ℕ, List, Option, None, Some, false, codes}
use Rattle.std.specs.Fmt.{digits, format_spec, padded_integral}
use Rattle.ld_main.specs.Program.{clause_line}
use Rattle.debug_main.specs.declared.verdict.DebugVerdict.{DebugVerdict}
use Rattle.debug_main.specs.declared.verdict.DebugVerdict.TheVariants as verdict
use Rattle.debug_main.specs.declared.verdict.Difference.{Difference}

-- a byte in two hexadecimal digits, or that a file ends
abbrev pub byte_text : Option ℕ → List ℕ
byte_text None = codes "end"
byte_text (Some b) = padded_integral (format_spec 32 0 4 2 (2 ^ 64 - 1)) false [] (digits 16 false b)

-- where the image differs, what is there and what is wanted
abbrev pub offset_text : ℕ → List ℕ
offset_text n = codes "no tables 0x" ++ digits 16 false n ++ codes ": "

abbrev pub difference_line : Difference → List ℕ
difference_line d = offset_text d.offset ++ byte_text d.there ++ codes ", wanted " ++ byte_text d.wanted ++ 10 ∷ []

abbrev pub verdict_text : DebugVerdict → List ℕ
verdict_text verdict.Yes = codes "yes\n"
verdict_text (verdict.No c) = clause_line c
verdict_text (verdict.NoTables None) = codes "no tables\n"
verdict_text (verdict.NoTables (Some d)) = difference_line d
