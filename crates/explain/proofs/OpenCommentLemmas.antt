-- Which block comments the loop over a text leaves open.
use Rattle.std.proofs.Common.{◌≡◌, ℕ, ◌+◌, List, [], ◌∷◌, ◌++◌, codes, false, length, Option, Some, None, MatchOption}
use Rattle.std.proofs.Common.{inl, inr, refl, sym, ap, ◌∙◌, subst, append_assoc, append-nil, arith, length-append}
use Rattle.std.proofs.Common.{reverse}
use Rattle.std.proofs.lemmas.List.{length-reverse, reverse-append}
use Rattle.std.specs.Str.{chars}
use Rattle.lexical.specs.Block.{BlockBody, Empty, Nested, Single, block_signs}
use Rattle.lexical.specs.Comment.{BlockComment}
use Rattle.lexical.specs.Form.{HasNone, Many}
use Rattle.lexical.specs.Rule.{Stands}
use Rattle.lexical.specs.Text.{begins_any}
use Rattle.lexical.specs.declared.cursor.TextCursor.{TextCursor}
use Rattle.explain.specs.Hint.{AreOpen, no_end, open_unit}
use Rattle.explain.specs.HintWalk.{EndedLast, IsSign, LeftComments}
use Rattle.explain.specs.Walk.{IsPast}
use Rattle.explain.specs.declared.comment_hints.Sign.TheVariants.{Opens, Closes, Other}
use Rattle.explain.proofs.PlaceLemmas.{further}
use Rattle.explain.proofs.StringLemmas.{many_more}

-- ---- bodies

join_at : (a b after rest : List ℕ) → rest ≡ b ++ after → BlockBody a rest → BlockBody b after
    → BlockBody (a ++ b) after
join_at a b after rest same (Empty e) h = subst (λ t. BlockBody (t ++ b) after) (sym e) h
join_at a b after rest same (Nested inner more e nested is) h =
    Nested inner (more ++ b) (ap (λ t. t ++ b) e ∙ simp (append_assoc))
    (subst (λ t. BlockBody inner (codes "*/" ++ t)) (ap (λ t. more ++ t) same ∙ sym (append_assoc more b after)) nested)
    (join_at more b after rest same is h)
join_at a b after rest same (Single c more e plain is) h =
    Single c (more ++ b) (ap (λ t. t ++ b) e)
    (subst (λ t. begins_any block_signs (c ∷ t) ≡ false) (ap (λ t. more ++ t) same ∙ sym (append_assoc more b after))
    plain)
    (join_at more b after rest same is h)

body_join : (a b after : List ℕ) → BlockBody a (b ++ after) → BlockBody b after → BlockBody (a ++ b) after
body_join a b after is h = join_at a b after (b ++ after) refl is h

-- a comment begins at the first cursor, and hasn't ended at the second
pub record Inside (x at : TextCursor) : Type 0 where
  pub body : List ℕ
  pub whole : chars x.rest.now ≡ (codes "/*" ++ body) ++ chars at.rest.now
  pub is : BlockBody body (chars at.rest.now)
  pub count : at.chars_before ≡ x.chars_before + (2 + length body)

-- the comments that are open at the cursor, the innermost first
abbrev pub Chain : TextCursor → List TextCursor → TextCursor → Type 0
Chain start [] at = at ≡ start
Chain start (x ∷ outer) at = Inside x at × Chain start outer x

-- ---- the comment that ended last

-- no comment ends between the two cursors
pub record Plain (from at : TextCursor) : Type 0 where
  pub past : IsPast from at
  pub many : Many (Stands open_unit) past.part (chars at.rest.now)

-- a comment ended, which is between the cursors `from` and `to`
pub record Ended (start from to : TextCursor) : Type 0 where
  pub outer : List TextCursor
  pub chain : Chain start outer from
  pub comment : IsPast from to
  pub stands : BlockComment comment.part (chars to.rest.now)

abbrev pub CommentState : TextCursor → TextCursor → Option (TextCursor × TextCursor) → Type 0
CommentState start at None = Plain start at
CommentState start at (Some x) = Ended start x.0 x.1 × Plain x.1 at

plain_here : (at : TextCursor) → Plain at at
plain_here at = record {
  past = record { part = []; whole = refl; count = omega arith };
  many = record { units = []; whole = refl; each = tt };
}

plain_more : (from at to : TextCursor) → Plain from at → (past : IsPast at to)
    → Stands open_unit past.part (chars to.rest.now) → Plain from to
unfolding further
plain_more from at to h past is = record {
  past = further from at to h.past past;
  many = many_more (Stands open_unit) h.past.part past.part (chars to.rest.now)
      (subst (Many (Stands open_unit) h.past.part) past.whole h.many) is;
}

comment_state_more : (start at to : TextCursor) (closed : Option (TextCursor × TextCursor))
    → CommentState start at closed → (past : IsPast at to)
    → Stands open_unit past.part (chars to.rest.now) → CommentState start to closed
comment_state_more start at to None h past is = plain_more start at to h past is
comment_state_more start at to (Some x) h past is = (h.0, plain_more x.1 at to h.1 past is)

-- ---- the whole loop

pub record Walked (start at : TextCursor) (opened : List TextCursor) (closed : Option (TextCursor × TextCursor)) : Type
    0 where
  pub chain : Chain start (reverse opened) at
  pub comment_state : CommentState start at closed

pub walk_begins : (start : TextCursor) (opened : List TextCursor) → opened ≡ [] → Walked start start opened None
walk_begins start opened e =
    record { chain = subst (λ xs. Chain start (reverse xs) start) (sym e) refl; comment_state = plain_here start }

pub walk_opens : (start at to : TextCursor) (old new : List TextCursor) (closed : Option (TextCursor × TextCursor))
    → Walked start at old closed → IsSign Opens at to → new ≡ old ++ at ∷ [] → Walked start to new closed
walk_opens start at to old new closed h sign e =
    let inside : Inside at to =
    record { body = []; whole = sign.0; is = Empty refl; count = omega (arith, sign.1) } in
    record {
      chain = subst (λ xs. Chain start xs to) (sym (ap reverse e ∙ reverse-append old (at ∷ []))) (inside, h.chain);
      comment_state = comment_state_more start at to closed h.comment_state
          (record { part = codes "/*"; whole = sign.0; count = omega (arith, sign.1) }) (inl refl);
    }

module _ (start : TextCursor) (more : List ℕ) (begins : chars start.rest.now ≡ codes "/*" ++ more) where
  other_chain : (xs : List TextCursor) (at to : TextCursor) → Chain start xs at → IsSign Other at to → Chain start xs to
  other_chain [] at to e sign =
      let clash : begins_any block_signs (codes "/*" ++ more) ≡ false =
      ap (begins_any block_signs) (sym (ap (λ c. chars c.rest.now) e ∙ begins)) ∙ sign.3 in
      absurd (cc)
  other_chain (x ∷ outer) at to h sign =
      let c = sign.0 in
      let body = h.0.body in (
        record {
          body = body ++ c ∷ [];
          whole = h.0.whole ∙ (ap (λ t. (codes "/*" ++ body) ++ t) sign.1 ∙ simp (append_assoc));
          is = body_join body (c ∷ []) (chars to.rest.now) (subst (BlockBody body) sign.1 h.0.is)
              (Single c [] refl (ap (begins_any block_signs) (sym sign.1) ∙ sign.3) (Empty refl));
          count = omega (arith, h.0.count, sign.2, length-append body (c ∷ []));
        },
        h.1,
      )

  pub walk_passes : (at to : TextCursor) (opened : List TextCursor) (closed : Option (TextCursor × TextCursor))
      → Walked start at opened closed → IsSign Other at to → Walked start to opened closed
  walk_passes at to opened closed h sign = record {
    chain = other_chain (reverse opened) at to h.chain sign;
    comment_state = comment_state_more start at to closed h.comment_state
        (record { part = sign.0 ∷ []; whole = sign.1; count = omega (arith, sign.2) })
        (inr ((sign.0, refl, refl), ap (begins_any block_signs) (sym sign.1) ∙ sign.3));
  }

  -- if a comment ends, one was open
  pub walk_has_open : (at to : TextCursor) (opened : List TextCursor) (closed : Option (TextCursor × TextCursor))
      → Walked start at opened closed → IsSign Closes at to → opened ≡ [] → ⊥
  walk_has_open at to opened closed h sign e =
      let same : at ≡ start = subst (λ xs. Chain start (reverse xs) at) e h.chain in
      let clash : codes "*/" ++ chars to.rest.now ≡ codes "/*" ++ more =
      sym sign.0 ∙ (ap (λ c. chars c.rest.now) same ∙ begins) in
      let one : ◌≡◌ {A = ℕ} 42 47 = cc in
      absurd (omega (arith, one))

  module _ (none : HasNone BlockComment (chars start.rest.now)) where
    abbrev ended : (from at to : TextCursor) → Inside from at → IsSign Closes at to → IsPast from to
    ended from at to h sign = record {
      part = codes "/*" ++ (h.body ++ codes "*/");
      whole = h.whole ∙ (ap (λ t. (codes "/*" ++ h.body) ++ t) sign.0
          ∙ sym (append_assoc (codes "/*" ++ h.body) (codes "*/") (chars to.rest.now)));
      count = omega (arith, h.count, sign.1, length-append h.body (codes "*/"));
    }

    ended_stands : (from at to : TextCursor) (h : Inside from at) (sign : IsSign Closes at to)
        → BlockComment (codes "/*" ++ (h.body ++ codes "*/")) (chars to.rest.now)
    ended_stands from at to h sign = record {
      front = codes "/*";
      back = h.body ++ codes "*/";
      whole = refl;
      first = refl;
      second = record {
        front = h.body;
        back = codes "*/";
        whole = refl;
        first = subst (BlockBody h.body) sign.0 h.is;
        second = refl;
      };
    }

    closed_chain : (xs : List TextCursor) (from at to : TextCursor) → Chain start xs from → Inside from at
        → IsSign Closes at to → Chain start xs to
    closed_chain [] from at to e h sign =
        let comment = ended from at to h sign in
        absurd (none comment.part (chars to.rest.now) (ap (λ c. chars c.rest.now) (sym e) ∙ comment.whole)
        (ended_stands from at to h sign))
    closed_chain (y ∷ outer) from at to is h sign =
        let inner = h.body in
        let body = is.0.body in
        let comment = ended from at to h sign in (
          record {
            body = body ++ comment.part;
            whole = is.0.whole ∙ (ap (λ t. (codes "/*" ++ body) ++ t) comment.whole ∙ simp (append_assoc));
            is = body_join body comment.part (chars to.rest.now) (subst (BlockBody body) comment.whole is.0.is)
                (Nested inner [] refl (subst (BlockBody inner) sign.0 h.is) (Empty refl));
            count = omega (arith, is.0.count, comment.count, length-append body comment.part);
          },
          is.1,
        )

    pub walk_closes : (at to from : TextCursor) (old new : List TextCursor) (closed : Option (TextCursor × TextCursor))
        → Walked start at old closed → IsSign Closes at to → old ≡ new ++ from ∷ []
        → Walked start to new (Some (from, to))
    walk_closes at to from old new closed h sign e =
        let chain : Chain start (from ∷ reverse new) at =
        subst (λ xs. Chain start xs at) (ap reverse e ∙ reverse-append new (from ∷ [])) h.chain in
        let comment = ended from at to chain.0 sign in
        record {
          chain = closed_chain (reverse new) from at to chain.1 chain.0 sign;
          comment_state = (
            record {
              outer = reverse new;
              chain = chain.1;
              comment = comment;
              stands = ended_stands from at to chain.0 sign;
            },
            plain_here to,
          );
        }

-- ---- the end of the text

record Open (start at : TextCursor) (depth : ℕ) : Type 0 where
  past : IsPast start at
  is : AreOpen depth past.part (chars at.rest.now)

are_open : (start : TextCursor) (xs : List TextCursor) (at : TextCursor) → Chain start xs at → Open start at (length xs)
are_open start [] at e = record {
  past = record {
    part = [];
    whole = ap (λ c. chars c.rest.now) (sym e);
    count = omega (arith, ap (λ c. c.chars_before) e);
  };
  is = refl;
}
are_open start (x ∷ outer) at h =
    let more = are_open start outer x h.1 in
    let body = h.0.body in
    record {
      past = record {
        part = more.past.part ++ (codes "/*" ++ body);
        whole = more.past.whole ∙ (ap (λ t. more.past.part ++ t) h.0.whole
            ∙ sym (append_assoc more.past.part (codes "/*" ++ body) (chars at.rest.now)));
        count = omega (arith, more.past.count, h.0.count, length-append more.past.part (codes "/*" ++ body));
      };
      is = record {
        front = more.past.part;
        back = codes "/*" ++ body;
        whole = refl;
        first = subst (AreOpen (length outer) more.past.part) h.0.whole more.is;
        second = record { front = codes "/*"; back = body; whole = refl; first = refl; second = h.0.is };
      };
    }

no_end_of : (from at : TextCursor) → Plain from at → chars at.rest.now ≡ [] → Stands no_end (chars from.rest.now) []
no_end_of from at h done =
    let all : chars from.rest.now ≡ h.past.part =
    h.past.whole ∙ (ap (λ t. h.past.part ++ t) done ∙ append-nil h.past.part) in
    record {
      front = chars from.rest.now;
      back = [];
      whole = sym (append-nil (chars from.rest.now));
      first = subst (λ t. Many (Stands open_unit) t []) (sym all)
          (subst (Many (Stands open_unit) h.past.part) done h.many);
      second = refl;
    }

comment_state_left : (start at : TextCursor) (closed : Option (TextCursor × TextCursor)) → CommentState start at closed
    → chars at.rest.now ≡ []
    → MatchOption closed (Stands no_end (chars start.rest.now) []) (λ x. EndedLast start x.0 x.1)
comment_state_left start at None h done = no_end_of start at h done
comment_state_left start at (Some x) h done =
    let around = are_open start h.0.outer x.0 h.0.chain in
    record {
      before = around.past;
      comment = h.0.comment;
      depth = length h.0.outer;
      inside = around.is;
      stands = h.0.stands;
      last = no_end_of x.1 at h.1 done;
    }

pub walk_ends : (start at : TextCursor) (opened : List TextCursor) (depth : ℕ)
    (closed : Option (TextCursor × TextCursor))
    → Walked start at opened closed → chars at.rest.now ≡ [] → depth ≡ length opened → LeftComments start depth closed
walk_ends start at opened depth closed h done same =
    let all = are_open start (reverse opened) at h.chain in
    let text : chars start.rest.now ≡ all.past.part =
    all.past.whole ∙ (ap (λ t. all.past.part ++ t) done ∙ append-nil all.past.part) in (
      subst (λ n. AreOpen n (chars start.rest.now) []) (length-reverse opened ∙ sym same)
          (subst (λ t. AreOpen (length (reverse opened)) t []) (sym text)
          (subst (AreOpen (length (reverse opened)) all.past.part) done all.is)),
      comment_state_left start at closed h.comment_state done,
    )
