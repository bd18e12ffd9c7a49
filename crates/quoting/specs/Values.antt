-- The fillings that the code's values stand for.
use Rattle.std.specs.Prelude.{ℕ, Bool, true, false, List, ◌++◌, Option, Some, None, codes}
use Rattle.std.specs.Fmt.{decimal, signed_decimal}
use Rattle.std.specs.Borrow.{Bor}
use Rattle.std.specs.Str.{chars}
use Rattle.proc_macro2.specs.Escaped.{character_text, string_text}
use Rattle.proc_macro2.specs.IdentFault.{ident_fault}
use Rattle.proc_macro2.specs.declared.IdentError.{IdentError}
use Rattle.proc_macro2.specs.Building.{split}
use Rattle.proc_macro2.specs.Extent.{nowhere}
use Rattle.proc_macro2.specs.Forest.{Forest, nil}
use Rattle.proc_macro2.specs.Leaf.{Name as Named, Text}
use Rattle.proc_macro2.specs.Trees.{alone}
use Rattle.proc_macro2.specs.declared.TokenTree.TheVariants.{Ident as IdentTree, Literal as LiteralTree}
use Rattle.quoting.specs.Items.{Filling, One, Unfit, Each, no_name, no_number, each_of}
use Rattle.quoting.specs.declared.values.Value.{Value}
use Rattle.quoting.specs.declared.values.Value.TheVariants.{Nothing, Stream, OwnedStream, Tree, OwnedTree, Ident}
use Rattle.quoting.specs.declared.values.Value.TheVariants.{Literal, Name, String, Character, Boolean}
use Rattle.quoting.specs.declared.values.Value.TheVariants.{Number as OfNumber}
use Rattle.quoting.specs.declared.values.Number.{Number}
use Rattle.quoting.specs.declared.values.Number.TheVariants.{U8, U16, U32, U64, U128, Usize, I8, I16, I32, I64, I128}
use Rattle.quoting.specs.declared.values.Number.TheVariants.{Isize}
use Rattle.quoting.specs.declared.values.Value.TheVariants.{NotFinite, Streams, Trees, Idents, Literals, Strings}
use Rattle.quoting.specs.declared.values.Value.TheVariants.{List as Listed}

-- an identifier that is not raw, with a span that points to no text
abbrev pub plain_name : List ℕ → Forest
plain_name name = alone (IdentTree (record { name = name; raw = false; span = nowhere }))

-- a literal with a span that points to no text. A negative one is its `-` and the rest
abbrev pub plain_literal : List ℕ → Forest
plain_literal text = split (LiteralTree (record { text = text; span = nowhere }))

-- the identifier with the given text, or the reason `no_name` if the text has an error
abbrev pub name_unless : Option IdentError → List ℕ → Filling
name_unless None name = One (plain_name name)
name_unless (Some fault) name = Unfit no_name

-- the text of a truth value
abbrev pub truth_text : Bool → List ℕ
truth_text false = codes "false"
truth_text true = codes "true"

-- the text of a number with its suffix
abbrev pub number_text : Number → List ℕ
number_text (U8 n) = decimal n ++ codes "u8"
number_text (U16 n) = decimal n ++ codes "u16"
number_text (U32 n) = decimal n ++ codes "u32"
number_text (U64 n) = decimal n ++ codes "u64"
number_text (U128 n) = decimal n ++ codes "u128"
number_text (Usize n) = decimal n ++ codes "usize"
number_text (I8 n) = signed_decimal n ++ codes "i8"
number_text (I16 n) = signed_decimal n ++ codes "i16"
number_text (I32 n) = signed_decimal n ++ codes "i32"
number_text (I64 n) = signed_decimal n ++ codes "i64"
number_text (I128 n) = signed_decimal n ++ codes "i128"
number_text (Isize n) = signed_decimal n ++ codes "isize"

-- the filling that a value stands for
abbrev pub value_of : Value → Filling
value_of Nothing = One nil
value_of (Stream stream) = One stream.now
value_of (OwnedStream stream) = One stream
value_of (Tree tree) = One (split tree.now)
value_of (OwnedTree tree) = One (split tree)
value_of (Ident ident) = One (alone (IdentTree ident.now))
value_of (Literal literal) = One (split (LiteralTree literal.now))
value_of (Name name) = name_unless (ident_fault false (chars name.now)) (chars name.now)
value_of (String text) = One (plain_literal (string_text (chars text.now)))
value_of (Character c) = One (plain_literal (character_text c))
value_of (Boolean truth) = One (plain_name (truth_text truth))
value_of (OfNumber number) = One (plain_literal (number_text number))
value_of NotFinite = Unfit no_number
value_of (Streams streams) = Each (each_of One streams.now)
value_of (Trees trees) = Each (each_of (λ tree. One (split tree)) trees.now)
value_of (Idents idents) = Each (each_of (λ (ident : Named). One (alone (IdentTree ident))) idents.now)
value_of (Literals literals) = Each (each_of (λ (literal : Text). One (split (LiteralTree literal))) literals.now)
value_of (Strings texts) =
    Each (each_of (λ (text : Bor (List ℕ)). One (plain_literal (string_text (chars text.now)))) texts.now)
value_of (Listed values) = Each values
