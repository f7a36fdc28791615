-- The kind of a definition by its entry, and whether it is one.
use Rattle.std.specs.Prelude.{◌&&◌, ◌||◌, Bool, cond, not}
use Rattle.elf_model.specs.Link.Resolution.{is_common, is_global, is_placed_symbol, is_weak}
use Rattle.elf_model.specs.declared.records.Symbol.{Symbol}
use Rattle.symbols.specs.declared.candidate.CandidateKind.{CandidateKind}
use Rattle.symbols.specs.declared.candidate.CandidateKind.TheVariants.{Common, Strong, Weak}

abbrev pub kind_by : Symbol → Bool → CandidateKind
kind_by e dropped =
    cond (is_global e && (is_placed_symbol e && not dropped)) Strong (cond (is_global e && (is_common e && not dropped)) Common Weak)

abbrev pub is_defining : Symbol → Bool → Bool
is_defining e dropped =
    (is_global e && (is_placed_symbol e && not dropped))
    || ((is_global e && (is_common e && not dropped)) || (is_weak e && (is_placed_symbol e && not dropped)))
