-- Lemmas on pieces: tokens of a source are built, and what the results of the lexer mean.
use Rattle.std.proofs.Common.{◌≡◌, ℕ, ◌-◌, Bool, List, [], ◌∷◌, ◌++◌, length, take, refl, sym, ap, ap₂, ◌∙◌, subst}
use Rattle.std.proofs.Common.{arith}
use Rattle.lexical.specs.Token.{Token, Name, Mark, Literal, raw_front, token_text}
use Rattle.lexical.specs.Piece.{Stands, IsPiece}
use Rattle.std.specs.Str.{chars}
use Rattle.std.proofs.lemmas.Str.{scalars-chars}
use denote.Bor.{Bor}
use Rattle.lexical.specs.Found.{kind_of}
use Rattle.lexical.specs.declared.piece.PieceKind.{PieceKind}
use Rattle.lexical.specs.declared.piece.PieceKind.TheVariants as kinds
use Rattle.lexical.proofs.PieceFacts.{stands_mark, piece_front}
use Rattle.grammar_laws.proofs.NameLemmas.{identifier_alone}
use Rattle.grammar_laws.proofs.LiteralLemmas.{literal_whole}
use Rattle.pm_span.specs.Extent.{Extent}
use Rattle.pm_token.specs.Built.{IsBuiltToken}
use Rattle.pm_token.specs.Leaf as leaves
use Rattle.pm_token.specs.Text.{IsText}
use Rattle.pm_token.proofs.TextLemmas.{text_split}
use Rattle.pm_stream.specs.Events.{One}
use Rattle.pm_stream.specs.Forest.{flat_onto}
use Rattle.pm_stream.specs.Taken.{IsLexed}
use Rattle.pm_stream.specs.Trees.{alone}
use Rattle.pm_stream.specs.declared.reading.Lexed.{Lexed}
use Rattle.pm_stream.specs.declared.stream.TokenTree.TheVariants as trees

-- a token of a source is built, if the source is a text
pub token_built : (token : Token) (r : List ℕ) → IsText (token_text token) → Stands token r → IsBuiltToken token
token_built (Name raw name) r all h =
    let is = identifier_alone raw name r h in
    (is.0, is.1, (text_split (raw_front raw) name all).1)
token_built (Mark c joint) r all h = stands_mark c joint r h
token_built (Literal text) r all h = (literal_whole text r h, all)

-- ---- what the results of the lexer mean

-- the characters of a piece's bytes
pub piece_chars : {lexed : Lexed} (is : IsLexed lexed) (bytes : List ℕ)
    → bytes ≡ take (lexed.piece.bytes - 0) lexed.text.now → chars bytes ≡ is.found.front
piece_chars {lexed} is bytes e =
    let all : lexed.piece.bytes - 0 ≡ lexed.piece.bytes = omega arith in
    ap chars (e ∙ ap (λ n. take n lexed.text.now) all)
    ∙ piece_front is.first lexed.text.now lexed.piece is.utf8 is.found

-- the piece has this kind in the grammar too
pub stands_as : {lexed : Lexed} (is : IsLexed lexed) (kind : PieceKind) → lexed.piece.kind ≡ kind
    → IsPiece is.first (kind_of kind is.found.front) is.found.front is.found.rest
stands_as is kind e =
    subst (λ k. IsPiece is.first (kind_of k is.found.front) is.found.front is.found.rest) e is.found.stands

-- a piece of a text is a text
piece_text : {lexed : Lexed} (is : IsLexed lexed) → IsText is.found.front
piece_text {lexed} is =
    (text_split is.found.front is.found.rest
    (subst IsText is.found.whole (scalars-chars lexed.text.now is.utf8))).0

pub name_found : {lexed : Lexed} (is : IsLexed lexed) (raw : Bool) (name : Bor (List ℕ))
    → lexed.piece.kind ≡ kinds.Name raw name → IsBuiltToken (Name raw (chars name.now))
name_found is raw name e =
    let stands = stands_as is (kinds.Name raw name) e in
    token_built (Name raw (chars name.now)) is.found.rest (subst IsText stands.0 (piece_text is)) stands.1

-- the text of a literal piece is a whole literal
pub literal_found : {lexed : Lexed} (is : IsLexed lexed) (bytes : List ℕ) → lexed.piece.kind ≡ kinds.Literal
    → chars bytes ≡ is.found.front → IsBuiltToken (Literal (chars bytes))
literal_found is bytes e same =
    subst (λ q. IsBuiltToken (Literal q)) (sym same)
    (token_built (Literal is.found.front) is.found.rest (piece_text is) (stands_as is kinds.Literal e).1)

-- two beginnings of a text that have the same length are equal
pub same_fronts : (p q r s : List ℕ) → p ++ r ≡ q ++ s → length p ≡ length q → p ≡ q
same_fronts [] [] r s e size = refl
same_fronts [] (d ∷ q) r s e size = absurd (omega (arith, size))
same_fronts (c ∷ p) [] r s e size = absurd (omega (arith, size))
same_fronts (c ∷ p) (d ∷ q) r s e size =
    let head : c ≡ d = cc in
    let tail : p ++ r ≡ q ++ s = cc in
    ap₂ (λ x xs. x ∷ xs) head (same_fronts p q r s tail (omega (arith, size)))

-- ---- the events of one token

pub name_events : (ident : leaves.Name) (name : List ℕ) (raw : Bool) (span : Extent) (lo hi : ℕ)
    → ident ≡ record { name = name; raw = raw; span = span } → span ≡ record { lo = lo; hi = hi }
    → flat_onto (alone (trees.Ident ident)) [] ≡ One (Name raw name) lo hi ∷ []
name_events ident name raw span lo hi e span_is =
    ap (λ i. flat_onto (alone (trees.Ident i)) []) e
    ∙ ap (λ (x : Extent). One (Name raw name) x.lo x.hi ∷ []) span_is
