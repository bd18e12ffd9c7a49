-- What a contract says of an identifier, a mark or a literal.
use Rattle.std.specs.Prelude.{ℕ, Bool, true, false, List}
use Rattle.lexical.specs.Token as tokens
use Rattle.pm_span.specs.Extent.{Extent}
use Rattle.pm_token.specs.declared.marks.Spacing.{Spacing}
use Rattle.pm_token.specs.declared.marks.Spacing.TheVariants.{Alone, Joint}

-- whether the spacing is Joint
abbrev pub is_joint : Spacing → Bool
is_joint Alone = false
is_joint Joint = true

-- an identifier: its name without `r#`, whether it is raw, and its span
pub record Name : Type 0 where
  pub name : List ℕ
  pub raw : Bool
  pub span : Extent

-- a mark: its character, its spacing and its span
pub record Mark : Type 0 where
  pub mark : ℕ
  pub spacing : Spacing
  pub span : Extent

-- a literal: its text and its span
pub record Text : Type 0 where
  pub text : List ℕ
  pub span : Extent

-- the token of an identifier
abbrev pub name_token : Name → tokens.Token
name_token ident = tokens.Name ident.raw ident.name

-- the token of a mark
abbrev pub mark_token : Mark → tokens.Token
mark_token punct = tokens.Mark punct.mark (is_joint punct.spacing)

-- the token of a literal
abbrev pub text_token : Text → tokens.Token
text_token literal = tokens.Literal literal.text
