-- The statement that the profile's check is no weaker than a judge of other linkers' links: what a link that it accepts meets
-- of the requirements of a right link of another linker, with the lines of its map as the certificate.
use Rattle.std.specs.Prelude.{List, [], None, false, map, option_map}
use Rattle.elf_model.specs.Image.MapRecord.{SymbolRow}
use Rattle.elf_model.specs.Image.RightLink.{Holds, Subject}
use Rattle.elf_model.specs.Inputs.Command.{Plan}
use Rattle.elf_model.specs.declared.verdict.Clause.{Clause}
use Rattle.judge_model.specs.Certificates.{CertificateRecord, NameRow}
use Rattle.judge_model.specs.Links.{ForeignLink}
use Rattle.judge_model.specs.Plans.{ForeignPlan}
use Rattle.judge_model.specs.RightForeign as foreign
use Rattle.judge_model.specs.declared.judgement.Requirement.TheVariants.{F2, F7, F9, F11}

-- words of the profile ask for nothing but its plan
abbrev pub plain_plan : Plan → ForeignPlan
plain_plan p = record {
  plan = p;
  collects = false;
  tables = false;
  takes_first = false;
  writes_code = false;
  executes_stack = None;
  features = 0;
  segment = None;
  starts = [];
  strips = p.strip;
  strips_local = false;
  script = None;
}

-- the lines of a map as a certificate, and the link with it
abbrev pub names_of : List SymbolRow → List NameRow
names_of rows = map (λ row. record { value = row.address; name = row.name }) rows

abbrev pub certificate_of : Subject → CertificateRecord
certificate_of s = record {
  objects = s.map.objects;
  drops = [];
  places = s.map.places;
  commons = s.map.commons;
  notes = [];
  areas = [];
  merged = [];
  list = None;
  frames = [];
  names = names_of s.map.symbols;
  got = option_map (λ g. g.address) s.map.got;
}

abbrev pub foreign_of : Subject → ForeignLink
foreign_of s = record { plan = plain_plan s.plan; files = s.files; image = s.image; certificate = certificate_of s }

-- which sections are in the image, the bytes outside of fields, the block of thread-local storage, and the entry
pub record MeetsRequirements (s : Subject) : Type 0 where
  pub kept : foreign.Holds F2 (foreign_of s)
  pub bytes : foreign.Holds F7 (foreign_of s)
  pub thread_block : foreign.Holds F9 (foreign_of s)
  pub entry : foreign.Holds F11 (foreign_of s)

-- a link that the check accepts meets these
abbrev pub CheckedLinksAreRight : Type 0
CheckedLinksAreRight = (s : Subject) → ((c : Clause) → Holds c s) → MeetsRequirements s
