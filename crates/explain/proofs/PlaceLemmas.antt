-- The wrong part of the text, between two cursors.
use Rattle.std.proofs.Common.{◌≡◌, ℕ, ◌+◌, ◌<◌, ◌≤◌, true, false, List, [], ◌∷◌, ◌++◌, length, refl, sym, ap, ◌∙◌}
use Rattle.std.proofs.Common.{subst, append_assoc, arith, length-append}
use Rattle.std.specs.Str.{chars}
use Rattle.lexical.specs.declared.cursor.TextCursor.{TextCursor}
use Rattle.literal_escaper.specs.declared.errors.EscapeError.{EscapeError}
use Rattle.explain.specs.Content.{IsPart, is_of_last}
use Rattle.explain.specs.Walk.{IsFaulty, IsLast, IsPast}
use Rattle.explain.specs.declared.reason.Reason.TheVariants.{Content}

unfoldable pub stays : (at : TextCursor) → IsPast at at
stays at = record { part = []; whole = refl; count = omega arith }

unfoldable pub further : (at mid to : TextCursor) → IsPast at mid → IsPast mid to → IsPast at to
further at mid to a b = record {
  part = a.part ++ b.part;
  whole = a.whole ∙ (ap (λ t. a.part ++ t) b.whole ∙ sym (append_assoc a.part b.part (chars to.rest.now)));
  count = omega (arith, a.count, b.count, length-append a.part b.part);
}

-- ---- the last character

-- a cursor before the end
pub record IsOnWay (at last end : TextCursor) : Type 0 where
  pub before : IsPast at last
  pub after : IsPast last end
  pub some : 1 ≤ length after.part

past_one : (last next end : TextCursor) (c : ℕ) (part : List ℕ) → chars last.rest.now ≡ part ++ chars end.rest.now
    → 1 ≤ length part → chars last.rest.now ≡ c ∷ chars next.rest.now
    → (more : List ℕ) × (part ≡ c ∷ more) × (chars next.rest.now ≡ more ++ chars end.rest.now)
past_one last next end c [] whole some split = absurd (omega arith)
past_one last next end c (d ∷ part) whole some split =
    let both : d ∷ (part ++ chars end.rest.now) ≡ c ∷ chars next.rest.now = sym whole ∙ split in
    (part, ap (λ x. x ∷ part) (cc), cc)

pub on_way : (at last next end : TextCursor) (c : ℕ) → IsOnWay at last end
    → chars last.rest.now ≡ c ∷ chars next.rest.now
    → next.chars_before ≡ last.chars_before + 1 → last.chars_before + 1 < end.chars_before → IsOnWay at next end
on_way at last next end c is split count before =
    let more = past_one last next end c is.after.part is.after.whole is.some split in
    let long : length is.after.part ≡ 1 + length more.0 = omega (arith, ap length more.1) in
    record {
      before = further at last next is.before (record { part = c ∷ []; whole = split; count = count });
      after = record { part = more.0; whole = more.2; count = omega (arith, is.after.count, count, long) };
      some = omega (arith, is.after.count, before, long);
    }

one_of : (text part rest : List ℕ) → text ≡ part ++ rest → length part ≡ 1 → (c : ℕ) × (text ≡ c ∷ rest)
one_of text [] rest e long = absurd (omega arith)
one_of text (c ∷ []) rest e long = (c, e)
one_of text (c ∷ (d ∷ part)) rest e long = absurd (omega arith)

pub last_is : (at last end : TextCursor) → IsOnWay at last end → end.chars_before ≤ last.chars_before + 1
    → IsLast at end last
last_is at last end is near =
    let one = one_of (chars last.rest.now) is.after.part (chars end.rest.now) is.after.whole
    (omega (arith, is.some, is.after.count)) in
    record {
      before = is.before;
      character = one.0;
      one = one.1;
      count = omega (arith, is.some, is.after.count);
    }

-- ---- the wrong part

pub faulty_last : (at after last : TextCursor) (e : EscapeError) → is_of_last e ≡ true → IsLast at after last
    → IsFaulty e at after (record { reason = Content e; at = last; after = after })
faulty_last at after last e of_last is = record {
  start = is.before;
  part = record { part = is.character ∷ []; whole = is.one; count = is.count };
  ends = refl;
  reason = refl;
  fault = subst (λ b. IsPart b is.before.part (is.character ∷ [])) (sym of_last) (is.character, refl);
}

pub faulty_all : (at after : TextCursor) (e : EscapeError) → is_of_last e ≡ false → IsPast at after
    → IsFaulty e at after (record { reason = Content e; at = at; after = after })
unfolding stays
faulty_all at after e whole past = record {
  start = stays at;
  part = past;
  ends = refl;
  reason = refl;
  fault = subst (λ b. IsPart b [] past.part) (sym whole) refl;
}
