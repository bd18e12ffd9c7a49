-- The definition of each reason. `front`, or `f`, is the text from the fault up to the wrong part. `part`, or `p`, is
-- the wrong part, and `r` is the rest of the text.
use Rattle.std.specs.Prelude.{ℕ, List, [], ◌∷◌, ◌++◌, codes}
use Rattle.std.specs.Char.{is_ascii_digit}
use Rattle.lexical.specs.Comment.{block_comment}
use Rattle.lexical.specs.Form.{HasNone}
use Rattle.lexical.specs.Number.{integer}
use Rattle.lexical.specs.Quoted.{front as string_front}
use Rattle.lexical.specs.Rule.{Rule, One, Exactly, Stands, nothing}
use Rattle.lexical.specs.declared.bytes.Base.{Base}
use Rattle.lexical.specs.declared.quoted.StringKind.{StringKind}
use Rattle.explain.specs.Content.{IsBadContent, IsBareReturn}
use Rattle.explain.specs.Shapes.{closed_string, closed_raw, raw_opening, long_opening, hashed_front, no_double_quote}
use Rattle.explain.specs.Shapes.{raw_name_start, reserved_raw, single_opening, closed_single, digit_lifetime, lifetime}
use Rattle.explain.specs.Shapes.{raw_lifetime_start, bare_prefix, base_front, ends_badly, begins_nothing}
use Rattle.explain.specs.declared.reason.Reason.{Reason}
use Rattle.explain.specs.declared.reason.Reason.TheVariants.{UnclosedComment, BareReturnInDoc}
use Rattle.explain.specs.declared.reason.Reason.TheVariants.{UnclosedString}
use Rattle.explain.specs.declared.reason.Reason.TheVariants.{UnclosedRawString, TooManyHashes, HashesWithoutQuote}
use Rattle.explain.specs.declared.reason.Reason.TheVariants.{ReservedRawName, UnclosedCharacter, Content}
use Rattle.explain.specs.declared.reason.Reason.TheVariants.{DigitLifetime, HashAfterLifetime, NoDigits, BadDigit}
use Rattle.explain.specs.declared.reason.Reason.TheVariants.{BadNumberEnd, MisplacedMark, NoToken, StrayCloser}
use Rattle.explain.specs.declared.reason.Reason.TheVariants.{MismatchedCloser, UnclosedOpener}

-- `front` matches the first rule, and the wrong part matches the second
abbrev pub Follow : Rule → Rule → List ℕ → List ℕ → List ℕ → Type 0
Follow a b front part r = Stands a front (part ++ r) × Stands b part r

-- the wrong part begins at the fault, and matches the rule
abbrev pub Begins : Rule → List ℕ → List ℕ → List ℕ → Type 0
Begins rule front part r = Follow nothing rule front part r

-- the rule has no match at the fault
abbrev pub Lacks : Rule → List ℕ → List ℕ → List ℕ → Type 0
Lacks rule front part r = HasNone (Stands rule) (front ++ (part ++ r))

-- the rule has a match at the fault
abbrev pub Has : Rule → List ℕ → List ℕ → List ℕ → Type 0
Has rule front part r = HasNone (Stands rule) (front ++ (part ++ r)) → ⊥

-- the reason holds: with this wrong part, it is why no piece of the grammar begins at the fault
abbrev pub Holds : Reason → List ℕ → List ℕ → List ℕ → Type 0
Holds UnclosedComment f p r = Begins (Exactly (codes "/*")) f p r × Lacks block_comment f p r
Holds BareReturnInDoc f p r = IsBareReturn f p r
Holds UnclosedString f p r =
    (kind : StringKind) × Begins (Exactly (string_front kind)) f p r × Lacks (closed_string kind) f p r
Holds UnclosedRawString f p r = (kind : StringKind) × Begins (raw_opening kind) f p r × Lacks (closed_raw kind) f p r
Holds TooManyHashes f p r = (kind : StringKind) × Begins (long_opening kind) f p r × Has (closed_raw kind) f p r
Holds HashesWithoutQuote f p r =
    (kind : StringKind) × Follow (hashed_front kind) no_double_quote f p r × Lacks raw_name_start f p r
Holds ReservedRawName f p r = Begins reserved_raw f p r
Holds UnclosedCharacter f p r = Begins single_opening f p r × Lacks closed_single f p r
Holds (Content e) f p r = IsBadContent e f p r
Holds DigitLifetime f p r = Begins digit_lifetime f p r
Holds HashAfterLifetime f p r = Follow lifetime (Exactly (codes "#")) f p r × Lacks raw_lifetime_start f p r
Holds NoDigits f p r = (base : Base) × Begins (bare_prefix base) f p r
Holds BadDigit f p r = (base : Base) × Follow (base_front base) (One is_ascii_digit) f p r
Holds BadNumberEnd f p r = Follow integer (One ends_badly) f p r
Holds MisplacedMark f p r = Begins (Exactly (0xFEFF ∷ [])) f p r
Holds NoToken f p r = Begins (One begins_nothing) f p r
Holds StrayCloser f p r = ⊥
Holds MismatchedCloser f p r = ⊥
Holds UnclosedOpener f p r = ⊥
