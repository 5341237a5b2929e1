-- One line more has its reply.
use Rattle.std.proofs.Common.{◌≡◌, ℕ, List, [], ◌∷◌, ◌++◌, length, sym, refl, ap, ◌∙◌, subst, append_assoc}
use Rattle.std.proofs.lemmas.List.{append-nil, nil_from_length}
use Rattle.history.specs.Answers.{Said}
use Rattle.judge.specs.Cases.{Contents}
use Rattle.console.specs.Judging.{LineJudged, Replies, RepliedSoFar}
use Rattle.console.specs.Lines.{lines}
use Rattle.console.specs.Rendering.{rendered}

replies_push : (held between kept : Contents) (texts : List (List ℕ)) (text bytes : List ℕ) (answer : Said) →
    Replies held texts bytes between → LineJudged between text answer kept → Replies held (texts ++ (text ∷ [])) (bytes ++ rendered answer) kept
replies_push held between kept [] text bytes answer none judged = record {
  answer = answer;
  next = kept;
  more = [];
  judged = subst (λ start. LineJudged start text answer kept) none.1 judged;
  joined = ap (λ front. front ++ rendered answer) none.0 ∙ sym (append-nil (rendered answer));
  rest = (refl, refl);
}
replies_push held between kept (first ∷ texts) text bytes answer turn judged = record {
  answer = turn.answer;
  next = turn.next;
  more = turn.more ++ rendered answer;
  judged = turn.judged;
  joined = cc (append_assoc (rendered turn.answer) turn.more (rendered answer));
  rest = replies_push turn.next between kept texts text turn.more answer turn.rest judged;
}

pub one_more : {held between kept : Contents} {texts left rest : List (List ℕ)} {line bytes : List ℕ} {answer : Said} →
    RepliedSoFar held texts left bytes between → left ≡ line ∷ rest → LineJudged between line answer kept → RepliedSoFar held texts rest (bytes ++ rendered answer) kept
one_more {rest = rest} {line = line} so_far next judged = record {
  done = so_far.done ++ (line ∷ []);
  split = cc (append_assoc so_far.done (line ∷ []) rest);
  replies = replies_push _ _ _ so_far.done line _ _ so_far.replies judged;
}

-- nothing of the text is left
pub all_replied : {held kept : Contents} {texts : List (List ℕ)} {bytes : List ℕ} (text : List ℕ) → RepliedSoFar held texts (lines text) bytes kept → length text ≡ 0 →
    Replies held texts bytes kept
all_replied {texts = texts} text so_far none =
    let all : so_far.done ≡ texts = sym (append-nil so_far.done) ∙ rw (nil_from_length text none) at so_far.split in
    rw all at so_far.replies
