-- Literals, for the laws of texts.
use Rattle.std.proofs.Common.{◌≡◌, ℕ, ◌+◌, true, ◌&&◌, ◌==◌, List, [], ◌∷◌, codes, refl, ap, arith, inl, inr}
use Rattle.std.specs.List.{list_all}
use Rattle.std.proofs.lemmas.List.{drop_all}
use Rattle.lexical.specs.Class.{is_ident_continue}
use Rattle.lexical.specs.Rule.{Then}
use Rattle.lexical.specs.Quoted.{Str, escape, close}
use Rattle.lexical.specs.RawString.{may_stand_raw, raw_quotes, raw_string}
use Rattle.lexical.specs.SingleQuoted as single
use Rattle.lexical.specs.Literal.{QuotedLiteral, Literal, AnyLiteral, IsLiteralToken, quoted_literal, string}
use Rattle.lexical.specs.declared.quoted.StringKind.{StringKind}
use Rattle.lexical.specs.declared.quoted.StringKind.TheVariants.{Plain, Byte, C}
use Rattle.lexical.proofs.QuotedLemmas.{stops, stop_ends}
use Rattle.grammar_laws.proofs.StableLemmas.{least, Stable, ends_after, Looks, stable}
use Rattle.grammar_laws.proofs.NumberLemmas.{looks_suffix}
use Rattle.grammar_laws.proofs.IntegerLemmas.{number_before_stop}

-- ---- literals before a new text that continues no identifier

-- an escape needs at most one character after it, which is the quote
looks_escape : (kind : StringKind) → Looks is_ident_continue 1 (escape kind)
looks_escape Plain = (tt, ((tt, (tt, tt)), (tt, ((tt, tt), tt))))
looks_escape Byte = (tt, ((tt, (tt, tt)), (tt, ((tt, tt), tt))))
looks_escape C = (tt, ((tt, (refl, (tt, tt))), (tt, ((tt, tt), tt))))

looks_close : (text : List ℕ) → Looks is_ident_continue 0 (close text)
looks_close text = (tt, looks_suffix is_ident_continue (λ c is. is))

-- a raw string looks at nothing after it
looks_raw : (kind : StringKind) → Looks is_ident_continue 0 (raw_string kind)
looks_raw kind = (
  tt,
  λ hashes.
      let quoted = 34 ∷ hashes in
      let opens = ends_after is_ident_continue (0 + least (raw_quotes (may_stand_raw kind) hashes)) (λ c. c == 35)
      (omega arith) in
      let past = 0 + least (close quoted) + 1 in
      let closing = ap (λ rest. list_all is_ident_continue rest && true) (drop_all past quoted (omega arith)) in
      (opens, (tt, ((closing, (tt, tt)), looks_close quoted))),
)

looks_string : (kind : StringKind) → Looks is_ident_continue 0 (string kind)
looks_string kind = ((tt, ((tt, (tt, (tt, ((tt, tt), looks_escape kind)))), looks_close (codes "\""))), looks_raw kind)

looks_single : (kind : StringKind)
    → Looks is_ident_continue 0 (Then (single.unit (single.is_plain kind) (escape kind)) (close (codes "'")))
looks_single kind = ((tt, (tt, looks_escape kind)), looks_close (codes "'"))

-- a literal between quotes stays a literal, if the new text continues no identifier, near or far
pub quoted_stable : Stable is_ident_continue QuotedLiteral
unfolding Str
quoted_stable = stable is_ident_continue quoted_literal
    (looks_string Plain, ((tt, looks_single Plain), (looks_string Byte, ((tt, looks_single Byte), looks_string C))))

-- a literal stays a literal before a stop
pub literal_before_stop : (p r s : List ℕ) → stops s ≡ true → AnyLiteral p r → AnyLiteral p s
unfolding Literal
literal_before_stop p r s e is = elim is [
  | inl literal ↦ inl (elim literal [
    | inl quoted ↦ inl (quoted_stable p [] r s (stop_ends s e).continue quoted)
    | inr number ↦ inr (number_before_stop p r s e number)
  ])
  | inr error ↦ inr error
]

-- a literal stays a literal at the end of the text
pub literal_whole : (p r : List ℕ) → AnyLiteral p r → IsLiteralToken p
unfolding IsLiteralToken
literal_whole p r is = literal_before_stop p r [] refl is
