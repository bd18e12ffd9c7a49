-- The grammar passes the tests that `one_reading` requires.
use Rattle.std.proofs.Common.{◌≡◌, refl, Bool, true, false, List, [], ◌∷◌, Option, Some, None, IfSome}
use Rattle.std.proofs.lemmas.Bool.{both_ways}
use Rattle.grammars.specs.Grammar.{Event, Derives}
use Rattle.grammars.specs.Machine.{run}
use Rattle.grammars.specs.Deterministic.{IsStart, IsWellFormed}
use Rattle.grammars.specs.Tests.{is_deterministic, is_productive}
use Rattle.grammars.proofs.SoundLemmas.{ReadsOf, run_sound}
use Rattle.grammars.proofs.StepLemmas.{clear_less}
use Rattle.grammars.proofs.TestLemmas.{alive_holds, clear_holds}
use Rattle.item_tables.specs.Classes.{any, every}
use Rattle.declarations.specs.rules.Names.{G, Inside, Label, Name, Outside, Range, Target, Expression, ExpressionOpen}
use Rattle.declarations.specs.rules.Names.{ExpressionWhole, ExpressionLess, ExpressionDot, Closure, Cast, CastWhole}
use Rattle.declarations.specs.rules.Names.{Function, Qualified, Async, Constant, Static, Alias, Struct, Enum, Union}
use Rattle.declarations.specs.rules.Names.{Trait}
use Rattle.declarations.specs.rules.Names.{Impl, Module, Path, Use, UsePath, Call}
use Rattle.declarations.specs.rules.Names.{AfterArguments, AfterName, AfterSeparator}
use Rattle.declarations.specs.rules.Rules.{follows, rules}
use Rattle.item_tables.specs.declared.class.SignClass.{SignClass}
use Rattle.item_tables.specs.declared.class.SignClass.TheVariants as signs
use Rattle.item_tables.specs.declared.class.Keyword.TheVariants as keywords
use Rattle.item_tables.specs.declared.class.Word.TheVariants as words
use Rattle.item_tables.specs.declared.types.TypeState.TheVariants as types
use Rattle.declarations.proofs.ClassLemmas.{any_passes, every_holds}

deterministic : (n : Name) → is_deterministic every follows (rules n) (follows n) ≡ true
deterministic (Range types.Wanted Inside) = refl
deterministic (Range types.Wanted _) = refl
deterministic (Range types.Bound Inside) = refl
deterministic (Range _ Inside) = refl
deterministic (Range types.Bound Outside) = refl
deterministic (Range _ Outside) = refl
deterministic (Range types.Bound Target) = refl
deterministic (Range _ Target) = refl
deterministic Expression = refl
deterministic (Path AfterName) = refl
deterministic (Path AfterSeparator) = refl
deterministic (Path AfterArguments) = refl
deterministic _ = refl

productive : (n : Name) → is_productive any (rules n) ≡ true
productive (Range types.Wanted Inside) = refl
productive (Range types.Wanted _) = refl
productive (Range types.Bound Inside) = refl
productive (Range _ Inside) = refl
productive (Range types.Bound Outside) = refl
productive (Range _ Outside) = refl
productive (Range types.Bound Target) = refl
productive (Range _ Target) = refl
productive Expression = refl
productive (Path AfterName) = refl
productive (Path AfterSeparator) = refl
productive (Path AfterArguments) = refl
productive _ = refl

-- ---- some signs that each rule reads

-- the sign of a name
abbrev plain : SignClass
plain = signs.Word words.Plain

abbrev sample : Name → List SignClass
sample (Range types.Wanted _) = plain ∷ []
sample (Range types.Bound _) = plain ∷ []
sample (Range types.Lifetime _) = plain ∷ []
sample (Range types.Argument _) = plain ∷ []
sample (Range types.Whole _) = []
sample (Range types.MacroGroup _) = signs.Braces ∷ []
sample (Range types.Pointer _) = signs.Keyword keywords.Const ∷ plain ∷ []
sample (Range types.Tilde _) = signs.Keyword keywords.Const ∷ plain ∷ []
sample (Range types.Abi _) = plain ∷ []
sample (Range types.Minus _) = signs.Literal ∷ []
sample (Range types.For _) = signs.Less ∷ signs.Greater ∷ plain ∷ []
sample (Range types.Binder _) = signs.Greater ∷ plain ∷ []
sample Expression = signs.Literal ∷ []
sample ExpressionOpen = []
sample ExpressionWhole = []
sample ExpressionLess = signs.Literal ∷ []
sample ExpressionDot = signs.Literal ∷ []
sample Closure = signs.Bar ∷ signs.Literal ∷ []
sample Cast = plain ∷ []
sample CastWhole = []
sample Function = plain ∷ signs.Parentheses ∷ signs.Braces ∷ []
sample Qualified = signs.Keyword keywords.Fn ∷ plain ∷ signs.Parentheses ∷ signs.Braces ∷ []
sample Async = signs.Keyword keywords.Fn ∷ plain ∷ signs.Parentheses ∷ signs.Braces ∷ []
sample Constant = plain ∷ signs.Colon ∷ plain ∷ signs.Semicolon ∷ []
sample Static = plain ∷ signs.Colon ∷ plain ∷ signs.Semicolon ∷ []
sample Alias = plain ∷ signs.Semicolon ∷ []
sample Struct = plain ∷ signs.Semicolon ∷ []
sample Enum = plain ∷ signs.Braces ∷ []
sample Union = plain ∷ signs.Braces ∷ []
sample Trait = plain ∷ signs.Braces ∷ []
sample Impl = plain ∷ signs.Braces ∷ []
sample Module = plain ∷ signs.Semicolon ∷ []
sample Use = plain ∷ signs.Semicolon ∷ []
sample UsePath = plain ∷ signs.Semicolon ∷ []
sample Call = signs.Exclamation ∷ signs.Braces ∷ []
sample (Path AfterName) = []
sample (Path AfterSeparator) = plain ∷ []
sample (Path AfterArguments) = []

-- whether there are events
abbrev is_read : Option (List (Event SignClass Label)) → Bool
is_read None = false
is_read (Some events) = true

sample_is_read : (n : Name) → is_read (run rules (rules n ∷ []) (sample n)) ≡ true
sample_is_read (Range types.Wanted Inside) = refl
sample_is_read (Range types.Wanted _) = refl
sample_is_read (Range types.Bound Inside) = refl
sample_is_read (Range _ Inside) = refl
sample_is_read (Range types.Bound Outside) = refl
sample_is_read (Range _ Outside) = refl
sample_is_read (Range types.Bound Target) = refl
sample_is_read (Range _ Target) = refl
sample_is_read Expression = refl
sample_is_read (Path AfterName) = refl
sample_is_read (Path AfterSeparator) = refl
sample_is_read (Path AfterArguments) = refl
sample_is_read _ = refl

sample_derives : (n : Name) (o : Option (List (Event SignClass Label))) → is_read o ≡ true
    → IfSome o (ReadsOf rules (rules n ∷ []) (sample n))
    → (events : List (Event SignClass Label)) × Derives rules (rules n) events
sample_derives n None h r = absurd (both_ways _ refl h)
sample_derives n (Some events) h r = (r.0.0, r.0.3)

pub well_formed : IsWellFormed rules follows
well_formed = record {
  deterministic = λ n. clear_holds every every_holds follows (rules n) (follows n) (deterministic n);
  productive = λ n. alive_holds any any_passes (rules n) (productive n);
  samples = λ n. sample_derives n (run rules (rules n ∷ []) (sample n)) (sample_is_read n)
      (run_sound rules (rules n ∷ []) (sample n));
}

-- ---- where a reading begins

-- a reading may begin with the rule, and nothing follows it
pub starts : (g : G) → is_deterministic every follows g (λ c. false) ≡ true → is_productive any g ≡ true
    → IsStart rules follows (g ∷ [])
starts g h j = record {
  deterministic = (clear_holds every every_holds follows g (λ c. false) h, tt);
  productive = (alive_holds any any_passes g j, tt);
}

-- a reading may begin with the rule of a name, and nothing follows it
pub rule_starts : (n : Name) → IsStart rules follows (rules n ∷ [])
rule_starts n = record {
  deterministic = (
    clear_less follows (rules n) (λ c. false) (follows n) (λ c h. absurd (both_ways _ refl h))
        (well_formed.deterministic n),
    tt,
  );
  productive = (well_formed.productive n, tt);
}
