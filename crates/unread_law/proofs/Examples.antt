-- Two archives of one member of three bytes, whose data differ: they agree outside of these.
use Rattle.std.proofs.Common.{◌≡◌, ℕ, List, [], ◌∷◌, ◌++◌, refl, sym, ◌∙◌, true}
use Rattle.std.specs.Prelude.{codes}
use Rattle.std.proofs.lemmas.Bool.{false≢true}
use Rattle.std.proofs.lemmas.List.Elements.{All-cons, All-nil}
use Rattle.elf_model.specs.Inputs.ArchiveFile.{header_offsets, is_ordinary, padded, stored_member}
use Rattle.unread_law.specs.Unread.{AgreeAt, AgreeOutside}

abbrev header : List ℕ
header = codes "a.o/            0           0     0     100644  3         `\n"

abbrev one : List ℕ
one = codes "!<arch>\n" ++ header ++ codes "abc\n"

abbrev other : List ℕ
other = codes "!<arch>\n" ++ header ++ codes "xyz\n"

offsets : header_offsets one ≡ 8 ∷ []
offsets = refl

ordinary : is_ordinary (stored_member one 8) ≡ true
unfolding padded
ordinary = refl

agree_at : AgreeAt one other 8
agree_at = record { header = refl; pad = λ odd. refl; tables = λ table. absurd (false≢true (sym table ∙ ordinary)) }

agree : AgreeOutside one other
agree = record { size = refl; magic = refl; each = All-cons (AgreeAt one other) 8 [] agree_at (All-nil (AgreeAt one other)) }
