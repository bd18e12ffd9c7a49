-- What is odd about a name.
use Rattle.std.specs.Prelude.{ℕ, Bool, true, false, ◌||◌, ◌==◌, List, [], ◌∷◌, ◌++◌, codes}
use Rattle.std.specs.Prelude.{if◌then◌else◌}
use Rattle.lexical.specs.Piece as pieces
use Rattle.lexical.specs.Piece.{Kind}
use Rattle.lexical.specs.Token as tokens
use Rattle.ucd_script.specs.Script.{script, script_number}
use Rattle.ucd_script.specs.declared.Script.{Script}
use Rattle.ucd_script.specs.declared.Script.TheVariants as scripts
use Rattle.unicode_normalization.specs.Forms.{is_nfc}
use Rattle.rust_check.specs.LineEnds.{odd}
use Rattle.rust_check.specs.Message.{Found}
use Rattle.rust_check.specs.NameForms.{is_other}
use Rattle.rust_check.specs.declared.finding.TextPosition.{TextPosition}
use Rattle.rust_check.specs.declared.names.Writing.{Writing}
use Rattle.rust_check.specs.declared.names.Writing.TheVariants.{Open, Han, Japanese, One, Mixed}

abbrev pub is_same : Script → Script → Bool
is_same a b = script_number a == script_number b

-- whether the script is written together with Han: Hangul and Bopomofo are
abbrev pub is_with_han : Script → Bool
is_with_han s = is_same s scripts.Hangul || is_same s scripts.Bopomofo

-- the scripts with one more character, of Han
abbrev pub with_han : Writing → Writing
with_han Open = Han
with_han Han = Han
with_han Japanese = Japanese
with_han (One s) = if is_with_han s then One s else Mixed
with_han Mixed = Mixed

-- the scripts with one more character, of Hiragana or Katakana
abbrev pub with_kana : Writing → Writing
with_kana Open = Japanese
with_kana Han = Japanese
with_kana Japanese = Japanese
with_kana (One s) = Mixed
with_kana Mixed = Mixed

-- the scripts with one more character, of any other script
abbrev pub with_other : Writing → Script → Writing
with_other Open s = One s
with_other Han s = if is_with_han s then One s else Mixed
with_other Japanese s = Mixed
with_other (One before) s = if is_same before s then One before else Mixed
with_other Mixed s = Mixed

-- the scripts with one more character; a character that all scripts share changes nothing
abbrev pub written_with : Writing → Script → Writing
written_with writing s =
    if is_same s scripts.Common || is_same s scripts.Inherited || is_same s scripts.Unknown then writing
    else (if is_same s scripts.Han then with_han writing
    else (if is_same s scripts.Hiragana || is_same s scripts.Katakana then with_kana writing else with_other writing s))

abbrev pub all_written : Writing → List ℕ → Writing
all_written writing [] = writing
all_written writing (c ∷ rest) = all_written (written_with writing (script c)) rest

abbrev pub are_apart : Writing → Bool
are_apart Mixed = true
are_apart _ = false

-- whether the name has characters of scripts that are not written together
abbrev pub is_mixed : List ℕ → Bool
is_mixed name = are_apart (all_written Open name)

-- what is odd about a name whose piece has this text and begins at this place; `before` has the names before it
abbrev pub found_in_name : TextPosition → List (List ℕ) → List ℕ → List ℕ → List Found
found_in_name place before name text =
    (if is_nfc name then []
    else odd (codes "name-not-in-nfc") (codes "a name that is not in the form NFC") text place ∷ [])
    ++ ((if is_mixed name
    then odd (codes "name-of-mixed-scripts") (codes "a name of scripts that are not written together") text place ∷ []
    else [])
    ++ (if is_other name before
    then odd (codes "name-like-another") (codes "a name that the form NFKC makes one with a name before it") text
    place ∷ []
    else []))

-- what is odd about a piece of this kind: only names can be odd
abbrev pub found_by_kind : TextPosition → List (List ℕ) → Kind → List ℕ → List Found
found_by_kind place before (pieces.Leaf (tokens.Name raw name)) text = found_in_name place before name text
found_by_kind place before (pieces.Leaf (tokens.Mark c joint)) text = []
found_by_kind place before (pieces.Leaf (tokens.Literal whole)) text = []
found_by_kind place before pieces.FrontMark text = []
found_by_kind place before pieces.Gap text = []
found_by_kind place before (pieces.Doc inner words) text = []
found_by_kind place before (pieces.Open c) text = []
found_by_kind place before (pieces.Close c) text = []

-- the names after a piece, the last first
abbrev pub names_after : List (List ℕ) → Kind → List (List ℕ)
names_after before (pieces.Leaf (tokens.Name raw name)) = name ∷ before
names_after before (pieces.Leaf (tokens.Mark c joint)) = before
names_after before (pieces.Leaf (tokens.Literal whole)) = before
names_after before pieces.FrontMark = before
names_after before pieces.Gap = before
names_after before (pieces.Doc inner words) = before
names_after before (pieces.Open c) = before
names_after before (pieces.Close c) = before
