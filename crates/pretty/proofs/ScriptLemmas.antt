-- The first line of a script.
use Rattle.std.proofs.Common.{◌≡◌, ◌∙◌, ℕ, Bool, false, not, List, [], ◌∷◌, ◌++◌, append_assoc, codes, refl, sym, ap}
use Rattle.std.proofs.Common.{None, Some, true, ◌==◌, length}
use Rattle.std.specs.Prelude.{String, string_bytes}
use Rattle.std.specs.Str.{IsUtf8, chars, encode_utf8_all}
use Rattle.std.proofs.lemmas.Bool.{both_ways, eqb-true}
use Rattle.std.proofs.lemmas.List.{nil_from_length}
use Rattle.std.proofs.lemmas.Str.{IsUtf8-string_bytes, chars-nil, encodes-chars, encodes_same}
use Rattle.lexical.specs.Class.{is_white}
use Rattle.lexical.specs.Finder.{Answer, while_front, while_rest}
use Rattle.lexical.specs.Rule.{Run, find}
use Rattle.lexical.specs.Text.{begins_with}
use Rattle.lexical.proofs.FinderLemmas.{while_whole}
use Rattle.pretty.specs.Script.{is_script, with_line}

abbrev rest_of : Answer → List ℕ
rest_of None = []
rest_of (Some x) = x.1

-- what a search for the end of a run of characters leaves
pub run_rest : (passes : ℕ → Bool) (text front rest : List ℕ) → find (Run passes) text ≡ Some (front, rest)
    → while_rest passes text ≡ rest
unfolding find
run_rest passes text front rest found = ap rest_of found

pub script_is : (text rest after : List ℕ) → text ≡ codes "#!" ++ rest → while_rest is_white rest ≡ after
    → is_script text ≡ not (begins_with (codes "[") after)
script_is text rest after whole left = rw (whole, left) refl

pub script_none : (text : List ℕ) → begins_with (codes "#!") text ≡ false → is_script text ≡ false
script_none text none = rw none refl

-- the characters of a run and what follows them are the whole text
pub run_whole : (passes : ℕ → Bool) (text rest : List ℕ) → while_rest passes text ≡ rest
    → text ≡ while_front passes text ++ rest
run_whole passes text rest left =
    sym (while_whole passes text) ∙ ap (λ r. while_front passes text ++ r) left

-- a line that isn't empty comes first, and then its LF
pub line_first : (line text : List ℕ) (c : ℕ) (more : List ℕ) → line ≡ c ∷ more
    → (line ++ codes "\n") ++ text ≡ with_line line text
line_first line text c more is = rw is (append_assoc (c ∷ more) (codes "\n") text)

pub no_chars : (text : List ℕ) → (length text == 0) ≡ true → chars text ≡ []
no_chars text none = ap chars (nil_from_length text (eqb-true (length text) 0 none)) ∙ chars-nil

some_chars : (text : List ℕ) → IsUtf8 text → (length text == 0) ≡ false
    → (c : ℕ) × (more : List ℕ) × (chars text ≡ c ∷ more)
some_chars text utf8 some = by_cases (chars text) refl
  where
    by_cases : (cs : List ℕ) → chars text ≡ cs → (c : ℕ) × (more : List ℕ) × (chars text ≡ c ∷ more)
    by_cases [] e =
        let nil : text ≡ [] = sym (encodes-chars text utf8) ∙ ap encode_utf8_all e in
        absurd (both_ways _ some (ap (λ t. length t == 0) nil))
    by_cases (c ∷ more) e = (c, more, e)

-- the text that is written after a line that isn't empty and its LF
pub line_written : {Z : Type 0} (s : String Z) (line text a b d e : List ℕ) → IsUtf8 line
    → (length line == 0) ≡ false → a ≡ [] → b ≡ a ++ chars line → d ≡ b ++ (10 ∷ []) → e ≡ d ++ text
    → string_bytes s ≡ encode_utf8_all e → chars (string_bytes s) ≡ with_line (chars line) text
line_written s line text a b d e utf8 some none first end last written =
    let front = some_chars line utf8 some in
    encodes_same _ _ (encodes-chars (string_bytes s) (IsUtf8-string_bytes s) ∙ written)
    ∙ (last ∙ (ap (λ x. x ++ text)
    (end ∙ ap (λ x. x ++ (10 ∷ [])) (first ∙ ap (λ x. x ++ chars line) none))
    ∙ line_first (chars line) text front.0 front.1 front.2))
