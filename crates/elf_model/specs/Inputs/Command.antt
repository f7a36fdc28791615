-- The words of a command, and the plan of a link that they make. Spellings are those of ld(1) but for --check,
-- which is the profile's, as are that there are no others, that a path ending in .a is an archive, the order in
-- which faults are met, and the bounds of the base.
use Rattle.std.specs.Prelude.{◌≡◌, ◌≢◌, ◌⊎◌, ℕ, ◌-◌, ◌%◌, ◌^◌, ◌<◌, ◌≤◌, Bool, true, false, not, ◌&&◌, ◌||◌, ◌==◌, nat_lt, nat_le, nat_eq, if◌then◌else◌, List, [], ◌∷◌, ◌++◌, length, drop, map, Option, Some, None, is_some, Result, Ok, Err, codes}
use Rattle.std.specs.Option.{unwrap_or, option_or, option_map, option_map_or, option_and_then, option_to_list}
use Rattle.std.specs.List.{All, filter, filter_map, flat_map, last_or, list_any, list_all, starts_with, ends_with}
use Rattle.std.specs.Str.{bytes_eq}
use Rattle.std.specs.Str.Parse.{digits_value}
use Rattle.std.specs.Char.{is_ascii_hexdigit}
use Rattle.elf_model.specs.declared.faults.CmdFault.{CmdFault}
use Rattle.elf_model.specs.declared.faults.CmdFault.TheVariants.{Memory, UnknownOption, MissingValue, BadNumber, GroupNesting, NoInput, NotArchiveInGroup}

-- what an item names: a path, or the NAME of -lNAME
pub data Source : Type 0 where
  Path : List ℕ → Source
  Library : List ℕ → Source

-- a file of the link: what names it, whether it is read as an archive (-l, or a path that ends in .a), whether it stands
-- under --whole-archive, and the number of the group in which it stands, counted from 0 in command order
pub record Item : Type 0 where
  pub source : Source
  pub archive : Bool
  pub whole : Bool
  pub group : Option ℕ

-- what a command asks for: its items and the directories of -L in command order, the names of -u, the entry's name, the
-- address at which the image begins, the path of the image, the path of the map if there is one, whether to check, and
-- whether the image is to have no symbol table
pub record Plan : Type 0 where
  pub items : List Item
  pub directories : List (List ℕ)
  pub undefined : List (List ℕ)
  pub entry : List ℕ
  pub base : ℕ
  pub output : List ℕ
  pub map : Option (List ℕ)
  pub check : Bool
  pub strip : Bool

-- what a phrase of one or two words says
pub data Phrase : Type 0 where
  Output : List ℕ → Phrase
  Entry : List ℕ → Phrase
  Undefined : List ℕ → Phrase
  Directory : List ℕ → Phrase
  Input : Source → Phrase
  MapFile : List ℕ → Phrase
  Base : ℕ → Phrase
  GroupStart : Phrase
  GroupEnd : Phrase
  WholeStart : Phrase
  WholeEnd : Phrase
  Check : Phrase
  Strip : Phrase
  NoEffect : Phrase

-- an option that takes a value
pub data Setting : Type 0 where
  OutputFile : Setting
  EntrySymbol : Setting
  UndefinedSymbol : Setting
  SearchDirectory : Setting
  LibraryName : Setting
  Machine : Setting
  MapPath : Setting
  TextSegment : Setting

-- the first of two results that is a fault, else the second, which may look at the first one's value
abbrev pub and_then : {X Y F : Type 0} → Result X F → (X → Result Y F) → Result Y F
and_then (Ok x) next = next x
and_then (Err f) next = Err f

-- a word without bytes
abbrev pub is_empty : List ℕ → Bool
is_empty w = length w == 0

-- what stands behind a text at the front of a word
abbrev pub after : List ℕ → List ℕ → Option (List ℕ)
after text w = if starts_with nat_eq w text then Some (drop (length text) w) else None

-- the options whose value is the next word, whatever that is
abbrev pub setting_of : List ℕ → Option Setting
setting_of w =
    if bytes_eq w (codes "-o") then Some OutputFile else
    (if bytes_eq w (codes "-e") then Some EntrySymbol else
    (if bytes_eq w (codes "-u") then Some UndefinedSymbol else
    (if bytes_eq w (codes "-L") then Some SearchDirectory else
    (if bytes_eq w (codes "-l") then Some LibraryName else
    (if bytes_eq w (codes "-m") then Some Machine else None)))))

-- the options whose value follows in the same word
abbrev pub joined_of : List ℕ → Option (Setting × List ℕ)
joined_of w =
    option_or (option_map (λ v. (SearchDirectory, v)) (after (codes "-L") w))
    (option_or (option_map (λ v. (LibraryName, v)) (after (codes "-l") w))
    (option_or (option_map (λ v. (MapPath, v)) (after (codes "-Map=") w))
    (option_map (λ v. (TextSegment, v)) (after (codes "-Ttext-segment=") w))))

-- the options without a value
abbrev pub switch_of : List ℕ → Option Phrase
switch_of w =
    if bytes_eq w (codes "--start-group") || bytes_eq w (codes "-(") then Some GroupStart else
    (if bytes_eq w (codes "--end-group") || bytes_eq w (codes "-)") then Some GroupEnd else
    (if bytes_eq w (codes "--whole-archive") then Some WholeStart else
    (if bytes_eq w (codes "--no-whole-archive") then Some WholeEnd else
    (if bytes_eq w (codes "--check") then Some Check else
    (if bytes_eq w (codes "-s") then Some Strip else
    (if bytes_eq w (codes "-static") || bytes_eq w (codes "-nostdlib") then Some NoEffect else None))))))

-- 1 to 16 hexadecimal digits of either case
abbrev pub is_hexadecimal : List ℕ → Bool
is_hexadecimal digits = nat_le 1 (length digits) && nat_le (length digits) 16 && list_all is_ascii_hexdigit digits

-- the number that such digits spell
abbrev pub number_of : List ℕ → Option ℕ
number_of digits = if is_hexadecimal digits then Some (digits_value 16 digits) else None

-- the number that 0x and such digits spell
abbrev pub address_of : List ℕ → Option ℕ
address_of v = option_and_then number_of (after (codes "0x") v)

-- an image may begin at this address: a page's, not the first one's, below 2^46; as a test and as a fact
abbrev pub is_base : ℕ → Bool
is_base n = nat_le 4096 n && nat_lt n (2 ^ 46) && (n % 4096 == 0)

abbrev pub IsBase : ℕ → Type 0
IsBase n = (4096 ≤ n) × (n < 2 ^ 46) × (n % 4096 ≡ 0)

-- the base that a value of -Ttext-segment= spells
abbrev pub base_of : List ℕ → Option ℕ
base_of v = option_and_then (λ n. if is_base n then Some n else None) (address_of v)

-- what an option with a nonempty value says
abbrev pub meaning : Setting → List ℕ → Result Phrase CmdFault
meaning OutputFile v = Ok (Output v)
meaning EntrySymbol v = Ok (Entry v)
meaning UndefinedSymbol v = Ok (Undefined v)
meaning SearchDirectory v = Ok (Directory v)
meaning LibraryName v = Ok (Input (Library v))
meaning Machine v = if bytes_eq v (codes "elf_x86_64") then Ok NoEffect else Err UnknownOption
meaning MapPath v = Ok (MapFile v)
meaning TextSegment v = option_map_or (λ n. Ok (Base n)) (base_of v) (Err BadNumber)

-- what an option with a value says
abbrev pub given : Setting → List ℕ → Result Phrase CmdFault
given s v = if is_empty v then Err MissingValue else meaning s v

-- a file's path is any nonempty word that doesn't begin with -
abbrev pub input : List ℕ → Result Phrase CmdFault
input w = if is_empty w || starts_with nat_eq w (codes "-") then Err UnknownOption else Ok (Input (Path w))

-- a phrase as it stands: a word, and behind an option that takes the next word, that word
pub record Said : Type 0 where
  pub word : List ℕ
  pub value : Option (List ℕ)

-- the words as phrases of one or two words
abbrev pub split : List (List ℕ) → List Said
split [] = []
split (w ∷ []) = record { word = w; value = None } ∷ []
split (w ∷ v ∷ ws) =
    if is_some (setting_of w) then record { word = w; value = Some v } ∷ split ws else record { word = w; value = None } ∷ split (v ∷ ws)

-- what an option says with the next word as its value, where there is one
abbrev pub of_next : Option (List ℕ) → Setting → Result Phrase CmdFault
of_next None s = Err MissingValue
of_next (Some v) s = given s v

-- what a word alone says
abbrev pub of_word : List ℕ → Result Phrase CmdFault
of_word w = option_map_or Ok (switch_of w) (option_map_or (λ p. given p.0 p.1) (joined_of w) (input w))

-- what a phrase says, or its fault
abbrev pub phrase_of : Said → Result Phrase CmdFault
phrase_of s = option_map_or (of_next s.value) (setting_of s.word) (of_word s.word)

-- the path of the image, in -o
abbrev pub output_in : Phrase → Option (List ℕ)
output_in (Output v) = Some v
output_in _ = None

-- the entry's name, in -e
abbrev pub entry_in : Phrase → Option (List ℕ)
entry_in (Entry v) = Some v
entry_in _ = None

-- an undefined name, in -u
abbrev pub undefined_in : Phrase → Option (List ℕ)
undefined_in (Undefined v) = Some v
undefined_in _ = None

-- a directory, in -L
abbrev pub directory_in : Phrase → Option (List ℕ)
directory_in (Directory v) = Some v
directory_in _ = None

-- what an item names, in a file's path and -l
abbrev pub source_in : Phrase → Option Source
source_in (Input s) = Some s
source_in _ = None

-- the path of the map, in -Map=
abbrev pub map_in : Phrase → Option (List ℕ)
map_in (MapFile v) = Some v
map_in _ = None

-- the base, in -Ttext-segment=
abbrev pub base_in : Phrase → Option ℕ
base_in (Base n) = Some n
base_in _ = None

-- whether a group is open, in the words that begin and end one
abbrev pub group_in : Phrase → Option Bool
group_in GroupStart = Some true
group_in GroupEnd = Some false
group_in _ = None

-- whether archives are taken whole, in --whole-archive and --no-whole-archive
abbrev pub whole_in : Phrase → Option Bool
whole_in WholeStart = Some true
whole_in WholeEnd = Some false
whole_in _ = None

-- a group begins
abbrev pub is_group_start : Phrase → Bool
is_group_start GroupStart = true
is_group_start _ = false

-- the image is to be checked
abbrev pub is_check : Phrase → Bool
is_check Check = true
is_check _ = false

-- the image is to have no symbol table
abbrev pub is_strip : Phrase → Bool
is_strip Strip = true
is_strip _ = false

-- the last of what phrases say of a part of a plan, or what holds where none says anything
abbrev pub last_said : {X : Type 0} → (Phrase → Option X) → X → List Phrase → X
last_said says otherwise ps = unwrap_or (last_or None (filter_map says ps)) otherwise

-- a group is open behind these phrases: the last word about groups began one
abbrev pub is_open : List Phrase → Bool
is_open ps = last_said group_in false ps

-- how many groups have begun in these phrases
abbrev pub groups_begun : List Phrase → ℕ
groups_begun ps = length (filter is_group_start ps)

-- the number of the group that is open behind these phrases, counted from 0
abbrev pub open_group : List Phrase → Option ℕ
open_group ps = if is_open ps then Some (groups_begun ps - 1) else None

-- an item is read as an archive
abbrev pub is_archive : Source → Bool
is_archive (Library name) = true
is_archive (Path path) = ends_with nat_eq path (codes ".a")

-- the item that names a source, where it stands behind these phrases
abbrev pub item_behind : List Phrase → Source → Item
item_behind front source = record { source = source; archive = is_archive source; whole = last_said whole_in false front; group = open_group front }

-- the items of phrases that stand behind others
abbrev pub items_behind : List Phrase → List Phrase → List Item
items_behind front [] = []
items_behind front (p ∷ ps) = option_to_list (option_map (item_behind front) (source_in p)) ++ items_behind (front ++ p ∷ []) ps

-- the plan that phrases make: the items in order, and of each repeated setting the last
abbrev pub plan_of_phrases : List Phrase → Plan
plan_of_phrases ps = record {
  items = items_behind [] ps;
  directories = filter_map directory_in ps;
  undefined = filter_map undefined_in ps;
  entry = last_said entry_in (codes "_start") ps;
  base = last_said base_in 0x400000 ps;
  output = last_said output_in (codes "a.out") ps;
  map = last_or None (filter_map map_in ps);
  check = list_any is_check ps;
  strip = list_any is_strip ps;
}

-- the faults that a phrase may have behind others: a group in a group, an end without a start, an object in a group
abbrev pub placed : List Phrase → Phrase → Result (List Phrase) CmdFault
placed front GroupStart = if is_open front then Err GroupNesting else Ok (front ++ GroupStart ∷ [])
placed front GroupEnd = if is_open front then Ok (front ++ GroupEnd ∷ []) else Err GroupNesting
placed front (Input s) = if is_open front && not (is_archive s) then Err NotArchiveInGroup else Ok (front ++ Input s ∷ [])
placed front p = Ok (front ++ p ∷ [])

-- the phrases in order, or the first fault met
abbrev pub read_behind : List Phrase → List Said → Result (List Phrase) CmdFault
read_behind front [] = Ok front
read_behind front (s ∷ ss) = and_then (and_then (phrase_of s) (placed front)) (λ ps. read_behind ps ss)

-- the faults of the whole line: an open group, no item, --check without -Map=
abbrev pub whole_line : List Phrase → Result Plan CmdFault
whole_line ps =
    if is_open ps then Err GroupNesting else
    (if length (plan_of_phrases ps).items == 0 then Err NoInput else
    (if (plan_of_phrases ps).check && not (is_some (plan_of_phrases ps).map) then Err MissingValue else Ok (plan_of_phrases ps)))

-- the plan of a command, or its first fault
unfoldable pub command_of : List (List ℕ) → Result Plan CmdFault
command_of words = and_then (read_behind [] (split words)) whole_line

-- a refusal of the words: for want of memory, or by the command's first fault
abbrev pub IsRefusal : List (List ℕ) → CmdFault → Type 0
IsRefusal words f = f ≢ Memory → command_of words ≡ Err f

-- The same without an order of reading: which words are a command, and of which phrases.

-- an option and its value as two words, or as one
abbrev pub IsTwoWords : List ℕ → List ℕ → List (List ℕ) → Type 0
IsTwoWords option v ws = (ws ≡ option ∷ v ∷ []) × (v ≢ [])

abbrev pub IsOneWord : List ℕ → List ℕ → List (List ℕ) → Type 0
IsOneWord option v ws = (ws ≡ (option ++ v) ∷ []) × (v ≢ [])

-- the words spell the phrase
abbrev pub IsSpelled : List (List ℕ) → Phrase → Type 0
IsSpelled ws (Output v) = IsTwoWords (codes "-o") v ws
IsSpelled ws (Entry v) = IsTwoWords (codes "-e") v ws
IsSpelled ws (Undefined v) = IsTwoWords (codes "-u") v ws
IsSpelled ws (Directory v) = IsTwoWords (codes "-L") v ws ⊎ IsOneWord (codes "-L") v ws
IsSpelled ws (Input (Library v)) = IsTwoWords (codes "-l") v ws ⊎ IsOneWord (codes "-l") v ws
IsSpelled ws (Input (Path v)) = (ws ≡ v ∷ []) × (v ≢ []) × ((w : List ℕ) → v ≢ codes "-" ++ w)
IsSpelled ws (MapFile v) = IsOneWord (codes "-Map=") v ws
IsSpelled ws (Base n) = (v : List ℕ) × IsOneWord (codes "-Ttext-segment=") v ws × (base_of v ≡ Some n)
IsSpelled ws GroupStart = (ws ≡ codes "--start-group" ∷ []) ⊎ (ws ≡ codes "-(" ∷ [])
IsSpelled ws GroupEnd = (ws ≡ codes "--end-group" ∷ []) ⊎ (ws ≡ codes "-)" ∷ [])
IsSpelled ws WholeStart = ws ≡ codes "--whole-archive" ∷ []
IsSpelled ws WholeEnd = ws ≡ codes "--no-whole-archive" ∷ []
IsSpelled ws Check = ws ≡ codes "--check" ∷ []
IsSpelled ws Strip = ws ≡ codes "-s" ∷ []
IsSpelled ws NoEffect = (ws ≡ codes "-static" ∷ []) ⊎ ((ws ≡ codes "-nostdlib" ∷ []) ⊎ (ws ≡ codes "-m" ∷ codes "elf_x86_64" ∷ []))

-- the words are the phrases, one behind the other
abbrev pub IsPhrases : List (List ℕ) → List Phrase → Type 0
IsPhrases words [] = words ≡ []
IsPhrases words (p ∷ ps) = (front : List (List ℕ)) × (rest : List (List ℕ)) × (words ≡ front ++ rest) × IsSpelled front p × IsPhrases rest ps

-- a phrase may stand behind others: groups aren't nested and have archives alone
abbrev pub MayFollow : List Phrase → Phrase → Type 0
MayFollow front GroupStart = is_open front ≡ false
MayFollow front GroupEnd = is_open front ≡ true
MayFollow front (Input s) = is_open front ≡ true → is_archive s ≡ true
MayFollow front p = Unit {0}

-- each of some phrases may stand behind front and those before it
abbrev pub AllFollow : List Phrase → List Phrase → Type 0
AllFollow front [] = Unit {0}
AllFollow front (p ∷ ps) = MayFollow front p × AllFollow (front ++ p ∷ []) ps

-- the words are a command of these phrases, and this is its plan; for the order of faults see command_of
pub record IsCommand (words : List (List ℕ)) (phrases : List Phrase) (plan : Plan) : Type 0 where
  pub spelled : IsPhrases words phrases
  pub grouped : AllFollow [] phrases
  pub closed : is_open phrases ≡ false
  pub plan_is : plan ≡ plan_of_phrases phrases
  pub some : plan.items ≢ []
  pub mapped : plan.check ≡ true → plan.map ≢ None

-- the words are a command, and this is its plan
abbrev pub HasPlan : List (List ℕ) → Plan → Type 0
HasPlan words plan = (phrases : List Phrase) × IsCommand words phrases plan

-- the path or the name of an item
abbrev pub text_of : Source → List ℕ
text_of (Path path) = path
text_of (Library name) = name

-- the paths and names in a plan aren't empty
pub record IsNamed (plan : Plan) : Type 0 where
  pub items : All (λ (i : Item). text_of i.source ≢ []) plan.items
  pub directories : All (λ d. d ≢ []) plan.directories
  pub undefined : All (λ n. n ≢ []) plan.undefined
  pub entry : plan.entry ≢ []
  pub output : plan.output ≢ []
  pub map : plan.map ≢ Some []

-- the archives that -lNAME may mean: DIR/libNAME.a for each directory
abbrev pub library_paths : List (List ℕ) → List ℕ → List (List ℕ)
library_paths directories name = map (λ d. d ++ (codes "/lib" ++ (name ++ codes ".a"))) directories

-- the files that an item may mean
abbrev pub paths_of : List (List ℕ) → Source → List (List ℕ)
paths_of directories (Path path) = path ∷ []
paths_of directories (Library name) = library_paths directories name

-- a list without repeats: of equal texts the first stays
abbrev pub distinct : List (List ℕ) → List (List ℕ)
distinct [] = []
distinct (x ∷ xs) = x ∷ filter (λ y. not (bytes_eq x y)) (distinct xs)

-- the files that a plan may read, in command order
unfoldable pub candidates_of : Plan → List (List ℕ)
candidates_of plan = distinct (flat_map (λ (i : Item). paths_of plan.directories i.source) plan.items)
