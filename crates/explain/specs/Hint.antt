-- Advice that helps to fix an error. It has its own definitions, and is no part of a reason.
use Rattle.std.specs.Prelude.{ℕ, zero, suc, ◌≡◌, List, [], ◌∷◌, ◌++◌, codes, length, Option, Some, None, MatchOption}
use Rattle.std.specs.Str.{encode_utf8_all}
use Rattle.lexical.specs.Block.{BlockBody, block_signs}
use Rattle.lexical.specs.Character.{double_quote, hash_sign}
use Rattle.lexical.specs.Comment.{BlockComment}
use Rattle.lexical.specs.Form.{Form, HasNone, Nothing, Then, Exactly as These}
use Rattle.lexical.specs.Rule.{Rule, One, Run, Exactly, UpTo, Either, NotAt, Stands, nothing}
use Rattle.lexical.specs.declared.quoted.StringKind.{StringKind}
use Rattle.explain.specs.Explained.{IsStretch}
use Rattle.explain.specs.Shapes.{any, closed_raw_body, is_hash, raw_opening}
use Rattle.explain.specs.declared.explained.Explained.{Explained}
use Rattle.explain.specs.declared.explained.Stretch.{Stretch}
use Rattle.explain.specs.declared.hints.Hint.{Hint}
use Rattle.explain.specs.declared.hints.Hint.TheVariants.{Comments, Quote}
use Rattle.explain.specs.declared.reason.Reason.{Reason}
use Rattle.explain.specs.declared.reason.Reason.TheVariants.{UnclosedComment, UnclosedRawString}

-- ---- block comments

-- `depth` block comments begin, each inside the one before, and none of them ends
abbrev pub AreOpen : ℕ → Form
AreOpen zero = Nothing
AreOpen (suc depth) = Then (AreOpen depth) (Then (These (codes "/*")) BlockBody)

-- `/*`, or a character at which no comment begins or ends
abbrev pub open_unit : Rule
open_unit = Either (Exactly (codes "/*")) (NotAt block_signs (One any))

-- a text in which no comment ends
abbrev pub no_end : Rule
no_end = UpTo open_unit nothing

-- the `Stretch` is a comment in the rest of the source, and no other comment ends after it. The rest follows the text
-- `text_before`
pub record IsLastClosed (base : ℕ) (text_before rest : List ℕ) (x : Stretch) : Type 0 where
  pub before : List ℕ
  pub comment : List ℕ
  pub after : List ℕ
  pub whole : rest ≡ before ++ (comment ++ after)
  -- the comment begins where a comment can, and not in the middle of a `/*` or `*/`
  pub depth : ℕ
  pub inside : AreOpen depth before (comment ++ after)
  pub stands : BlockComment comment after
  pub last : Stands no_end after []
  pub at : IsStretch base (text_before ++ before) comment x

-- `depth` comments are open at the end of the text, and `closed` is the comment that ended last, if one did
abbrev pub TellsComments : ℕ → List ℕ → List ℕ → ℕ → Option Stretch → Type 0
TellsComments base text_before rest depth closed =
    AreOpen depth rest [] × MatchOption closed (Stands no_end rest []) (IsLastClosed base text_before rest)

-- ---- raw strings

-- a quote and the hash signs after it: a raw string with so many hash signs would end there, and one with more would
-- end nowhere
pub record IsNearest (base : ℕ) (text_before rest : List ℕ) (x : Stretch) : Type 0 where
  pub kind : StringKind
  pub opening : List ℕ
  pub before : List ℕ
  pub signs : List ℕ
  pub after : List ℕ
  pub whole : rest ≡ opening ++ (before ++ ((double_quote ∷ signs) ++ after))
  pub opens : Stands (raw_opening kind) opening (before ++ ((double_quote ∷ signs) ++ after))
  pub run : Stands (Run is_hash) signs after
  pub closes : Stands (closed_raw_body signs) (before ++ (double_quote ∷ signs)) after
  pub most : HasNone (Stands (closed_raw_body (hash_sign ∷ signs))) (before ++ ((double_quote ∷ signs) ++ after))
  pub at : IsStretch base (text_before ++ (opening ++ before)) (double_quote ∷ signs) x

-- no quote is in the text after what opens a raw string
pub record HasNoQuote (rest : List ℕ) : Type 0 where
  pub kind : StringKind
  pub opening : List ℕ
  pub body : List ℕ
  pub whole : rest ≡ opening ++ body
  pub opens : Stands (raw_opening kind) opening body
  pub none : HasNone (Stands (closed_raw_body [])) body

-- ---- all of them

-- the hint fits the reason. `rest` is the source from the fault on, and `text_before` is the source before the fault
abbrev pub Helps : ℕ → List ℕ → List ℕ → Reason → Option Hint → Type 0
Helps base text_before rest UnclosedComment None = ⊥
Helps base text_before rest UnclosedComment (Some (Comments depth closed)) =
    TellsComments base text_before rest depth closed
Helps base text_before rest UnclosedComment (Some (Quote x)) = ⊥
Helps base text_before rest UnclosedRawString None = HasNoQuote rest
Helps base text_before rest UnclosedRawString (Some (Comments depth closed)) = ⊥
Helps base text_before rest UnclosedRawString (Some (Quote x)) = IsNearest base text_before rest x
Helps base text_before rest _ None = Unit {0}
Helps base text_before rest _ (Some hint) = ⊥

-- the hint fits the explanation of the source
pub record IsHint (base : ℕ) (source : List ℕ) (x : Explained) (hint : Option Hint) : Type 0 where
  pub text_before : List ℕ
  pub rest : List ℕ
  pub whole : source ≡ text_before ++ rest
  pub fault : x.before.start ≡ length (encode_utf8_all text_before)
  pub helps : Helps base text_before rest x.reason hint
