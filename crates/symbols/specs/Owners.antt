-- What a name means so far, by its kind.
use Rattle.std.specs.Prelude.{ℕ, ◌&&◌, Bool, true, false, List, Option, None, Some, unwrap_or}
use Rattle.elf_model.specs.declared.references.SymbolRef.{SymbolRef}
use Rattle.symbols.specs.Rows.{Rows, no_row}
use Rattle.symbols.specs.declared.candidate.Candidate.{Candidate}
use Rattle.symbols.specs.declared.candidate.CandidateKind.{CandidateKind}
use Rattle.symbols.specs.declared.candidate.CandidateKind.TheVariants.{Common, Strong, Weak}
use Rattle.symbols.specs.declared.owner.Owner.{Owner}
use Rattle.symbols.specs.declared.owner.Owner.TheVariants as owner
use Rattle.symbols.specs.declared.row.Row.{Row}

-- what a name means after one more candidate
abbrev pub after_kind : CandidateKind → Owner → SymbolRef → Owner
after_kind Strong owner.Nobody s = owner.Strong s
after_kind Strong (owner.Weak first) s = owner.Strong s
after_kind Strong (owner.Common first) s = owner.Strong s
after_kind Strong (owner.Strong first) s = owner.Strong first
after_kind Common owner.Nobody s = owner.Common s
after_kind Common (owner.Weak first) s = owner.Common s
after_kind Common (owner.Common first) s = owner.Common first
after_kind Common (owner.Strong first) s = owner.Strong first
after_kind Weak owner.Nobody s = owner.Weak s
after_kind Weak (owner.Weak first) s = owner.Weak first
after_kind Weak (owner.Common first) s = owner.Common first
after_kind Weak (owner.Strong first) s = owner.Strong first

abbrev pub owner_after : Owner → Candidate → Owner
owner_after o c = after_kind c.kind o c.symbol

abbrev pub owner_ref : Owner → Option SymbolRef
owner_ref owner.Nobody = None
owner_ref (owner.Weak s) = Some s
owner_ref (owner.Common s) = Some s
owner_ref (owner.Strong s) = Some s

abbrev pub is_strong_owner : Owner → Bool
is_strong_owner (owner.Strong s) = true
is_strong_owner _ = false

-- a candidate is a second strong one of a name that means this
abbrev pub is_strong_kind : CandidateKind → Bool
is_strong_kind Strong = true
is_strong_kind _ = false

abbrev pub is_second : Owner → Candidate → Bool
is_second o c = is_strong_kind c.kind && is_strong_owner o

-- what a row's name means
abbrev pub weak_owner : Option SymbolRef → Owner
weak_owner None = owner.Nobody
weak_owner (Some s) = owner.Weak s

abbrev pub common_owner : Option SymbolRef → Owner → Owner
common_owner None rest = rest
common_owner (Some s) rest = owner.Common s

abbrev pub strong_owner : Option SymbolRef → Owner → Owner
strong_owner None rest = rest
strong_owner (Some s) rest = owner.Strong s

abbrev pub owner_of : Row → Owner
owner_of row = strong_owner row.strong (common_owner row.common (weak_owner row.weak))

abbrev pub owner_in : Rows → List ℕ → Owner
owner_in rows name = owner_of (unwrap_or (rows name) no_row)
