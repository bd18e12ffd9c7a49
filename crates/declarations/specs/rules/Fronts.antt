-- What items begin with, up to their names.
use Rattle.std.specs.Prelude.{Bool, not, ◌&&◌, ◌||◌, [], ◌∷◌}
use Rattle.grammars.specs.Grammar.{Mark, Sign, To, Then, Either, perhaps}
use Rattle.item_tables.specs.Classes.{is, one_of, keyword, is_word}
use Rattle.declarations.specs.rules.Names.{G, seq, alt, one, key, Function, Qualified, Async, Constant, Static, Alias}
use Rattle.declarations.specs.rules.Names.{Trait, Impl, Module, Named, Rest}
use Rattle.declarations.specs.rules.Bodies.{braces, semicolon, constant_rest}
use Rattle.item_tables.specs.declared.class.SignClass.{SignClass}
use Rattle.item_tables.specs.declared.class.SignClass.TheVariants as signs
use Rattle.item_tables.specs.declared.class.Keyword.TheVariants as keywords
use Rattle.item_tables.specs.declared.class.Word.TheVariants as words

-- a function, from `fn` on
abbrev pub fn : G
fn = To (keyword keywords.Fn) Function

-- a function, from its `extern` or its `fn` on
abbrev pub function_front : G
function_front = Either (seq (key keywords.Extern ∷ perhaps (one signs.Literal) ∷ fn ∷ [])) fn

-- whether the sign is `unsafe` or `safe`
abbrev pub is_safe : SignClass → Bool
is_safe c = keyword keywords.Unsafe c || is (signs.Word words.Safe) c

-- whether the sign can be a segment of a path
abbrev pub is_segment : SignClass → Bool
is_segment c = is_word c || one_of (signs.SelfValue ∷ signs.Super ∷ signs.Crate ∷ []) c

-- the rest of an `extern` block or a function after `extern` and its ABI
abbrev pub extern_rest : G
extern_rest = Either braces fn

-- the rest of an `extern` block or a function after `extern`
abbrev pub unsafe_extern : G
unsafe_extern = Either (Then (one signs.Literal) extern_rest) extern_rest

-- a name or `_`
abbrev pub new_name : G
new_name = Sign (λ c. is_word c || is signs.Underscore c)

-- `as` and a name or `_`, or nothing
abbrev pub as_name : G
as_name = perhaps (Then (one signs.As) new_name)

-- the name of an external crate, or `self`
abbrev pub crate_name : G
crate_name = Sign (λ c. is_word c || is signs.SelfValue c)

-- the rest of an item after `extern`
abbrev pub extern_front : G
extern_front = Either
    (seq (one signs.Crate ∷ Mark Named ∷ crate_name ∷ Mark Rest ∷ as_name ∷ semicolon ∷ []))
    unsafe_extern

-- the rest of a trait after `auto`
abbrev pub auto_front : G
auto_front = To (keyword keywords.Trait) Trait

-- the rest of an item after `safe`
abbrev pub safe_front : G
safe_front = Either (To (keyword keywords.Static) Static) function_front

-- the rest of a function after `gen`
abbrev pub gen_front : G
gen_front = Either (To is_safe Qualified) function_front

-- the rest of an item after `default unsafe`
abbrev pub default_unsafe : G
default_unsafe = Either (To (keyword keywords.Impl) Impl) function_front

-- the rest of an item after `default`
abbrev pub default_front : G
default_front = alt (
    To (keyword keywords.Async) Async
    ∷ To (keyword keywords.Const) Constant
    ∷ To (keyword keywords.Impl) Impl
    ∷ To (keyword keywords.Type) Alias
    ∷ Then (key keywords.Unsafe) default_unsafe
    ∷ Then (one (signs.Word words.Gen)) gen_front
    ∷ To (is (signs.Word words.Safe)) Qualified
    ∷ function_front
    ∷ [])

-- the rest of an item after `unsafe`
abbrev pub unsafe_front : G
unsafe_front = alt (
    Then (key keywords.Extern) unsafe_extern
    ∷ fn
    ∷ To (keyword keywords.Impl) Impl
    ∷ To (keyword keywords.Mod) Module
    ∷ To (keyword keywords.Static) Static
    ∷ To (keyword keywords.Trait) Trait
    ∷ Then (one (signs.Word words.Auto)) auto_front
    ∷ [])

-- the rest of a function after `async`
abbrev pub async_front : G
async_front = Either (Then (one (signs.Word words.Gen)) gen_front) gen_front

-- whether the sign is the name of a constant, and after `const` belongs to nothing else
abbrev pub is_constant_name : SignClass → Bool
is_constant_name c =
    (is_word c && not (one_of (signs.Word words.Safe ∷ signs.Word words.Gen ∷ []) c)) || is signs.Underscore c

-- the rest of an item after `const`
abbrev pub const_front : G
const_front = alt (
    To (keyword keywords.Async) Async
    ∷ To (keyword keywords.Unsafe) Qualified
    ∷ function_front
    ∷ To (keyword keywords.Trait) Trait
    ∷ Then (one (signs.Word words.Safe)) (Either function_front constant_rest)
    ∷ Then (one (signs.Word words.Gen)) (Either gen_front constant_rest)
    ∷ seq (Mark Named ∷ Sign is_constant_name ∷ constant_rest ∷ [])
    ∷ [])
