-- The entries of a table with the names that it has to have, by what is read of the image.
use Rattle.std.proofs.Common.{◌≡◌, ◌∙◌, ℕ, ◌/◌, Bool, false, ◌||◌, List, take, drop, sym, ap, subst}
use Rattle.std.specs.Prelude.{◌↔◌, All, IsPermutation, None}
use Rattle.std.specs.List.{list_any}
use Rattle.elf_model.specs.Inputs.ObjectFile.{contents, entries, section, symbol_table, symbols_of}
use Rattle.elf_model.specs.Inputs.Records.{symbol}
use Rattle.elf_model.specs.Link.Resolution.{all_symbols}
use Rattle.elf_model.specs.declared.records.SectionHeader.{SectionHeader}
use Rattle.elf_model.specs.declared.records.Symbol.{Symbol}
use Rattle.check_load.specs.NameNumbers.{is_among}
use Rattle.judge_model.specs.Links.{ForeignLink}
use Rattle.judge_model.specs.Tables.{AreThere, IsEntryRight, image_sections, image_symbols, strings_of}
use Rattle.link_fields.specs.Parts.{Parts, parts_of}
use Rattle.symbol_judge.specs.Entries.{IsRightNamed}
use Rattle.symbol_judge.specs.Locals.{locals_in}
use Rattle.symbol_judge.specs.Names.{is_name_of}
use Rattle.symbol_judge.specs.There.{HasNames}
use Rattle.symbol_judge.specs.declared.locals.Local.{Local}
use Rattle.symbol_judge.proofs.EntryLaws.{entries_iff}
use Rattle.symbol_judge.proofs.NameSteps.{among_all, own_among}
use Rattle.symbol_judge.proofs.TableLaws.{names_iff}

module _ (l : ForeignLink) (p : Parts) (hs : List SectionHeader) (strings : List ℕ) (es first rest others : List Symbol) (names : List (List ℕ)) (strips : Bool) (parts : parts_of l ≡ p) (none : p.script ≡ None) (sections : image_sections l.image ≡ hs) (strings_are : strings_of l.image (image_sections l.image) ≡ strings) (symbols : image_symbols l.image ≡ es) (words : l.plan.strips ≡ strips) (first_is : first ≡ take 1 es) (rest_is : rest ≡ drop 1 es) (order : IsPermutation rest others) (among : (n : List ℕ) → is_among names n ≡ (list_any (is_name_of strings n) others || list_any (is_name_of strings n) first)) where
  own : (n : List ℕ) → is_among names n ≡ list_any (is_name_of (strings_of l.image (image_sections l.image)) n) (image_symbols l.image)
  own n =
      among_all strings names es first rest others first_is rest_is order among n
      ∙ (ap (λ (xs : List Symbol). list_any (is_name_of strings n) xs) (sym symbols)
      ∙ ap (λ (bytes : List ℕ). list_any (is_name_of bytes n) (image_symbols l.image)) (sym strings_are))

  pub there_by : HasNames strips p names ↔ (l.plan.strips ≡ false → AreThere l)
  there_by = names_iff l p strips names parts words own

  pub entries_by : (table : List Local) → IsPermutation (locals_in p names (all_symbols p.objects)) table →
      All (IsRightNamed p hs strings names table) others ↔ All (IsEntryRight l) (drop 1 (image_symbols l.image))
  entries_by table same =
      subst (λ (xs : List Symbol). All (IsRightNamed p hs strings names table) others ↔ All (IsEntryRight l) xs)
      (rest_is ∙ ap (λ (xs : List Symbol). drop 1 xs) (sym symbols))
      (entries_iff l p hs strings names table rest others parts none sections strings_are order
      (own_among strings names es first rest others first_is rest_is order among) same)

-- What is read of the image.
module _ (l : ForeignLink) (p : Parts) (hs : List SectionHeader) (file : List ℕ) (t : SectionHeader) (parts : parts_of l ≡ p) (sections : image_sections l.image ≡ hs) (file_is : file ≡ p.image) (table_is : t ≡ symbol_table hs) where
  image_is : l.image ≡ file
  image_is = ap (λ (q : Parts). q.image) parts ∙ sym file_is

  pub symbols_are : image_symbols l.image ≡ entries symbol 24 file t.sh_offset (t.sh_size / 24)
  symbols_are =
      ap (λ (gs : List SectionHeader). symbols_of l.image gs) sections
      ∙ (ap (λ (bytes : List ℕ). symbols_of bytes hs) image_is
      ∙ ap (λ (u : SectionHeader). entries symbol 24 file u.sh_offset (u.sh_size / 24)) (sym table_is))

  pub strings_are : strings_of l.image (image_sections l.image) ≡ contents file (section hs t.sh_link)
  strings_are =
      ap (λ (gs : List SectionHeader). strings_of l.image gs) sections
      ∙ (ap (λ (bytes : List ℕ). strings_of bytes hs) image_is ∙ ap (λ (u : SectionHeader). contents file (section hs u.sh_link)) (sym table_is))

  pub info_is : (symbol_table (image_sections l.image)).sh_info ≡ t.sh_info
  info_is = ap (λ (gs : List SectionHeader). (symbol_table gs).sh_info) sections ∙ ap (λ (u : SectionHeader). u.sh_info) (sym table_is)
