-- The walk of a claim that stands: as a claim leaves it, and one step on.
use Rattle.std.proofs.Common.{◌≡◌, ℕ, ◌<◌, ◌≤◌, Bool, List, [], ◌∷◌, ◌++◌, length, get_or, Some, Option, All, sym, refl, ap, ◌∙◌, subst, ⊎_elim, arith}
use Rattle.std.proofs.lemmas.List.Elements.{All-get_or}
use Rattle.std.proofs.lemmas.List.{get_or_past}
use Rattle.std.proofs.lemmas.Bool.{cases_lt}
use Rattle.price.specs.Pairs.{Pair}
use Rattle.price.specs.Senses.{no_better}
use Rattle.price.specs.declared.senses.Sense.{Sense}
use Rattle.task.specs.Graph.{no_edge, edge_at, head_of, Start}
use Rattle.task.specs.Rows.{Row}
use Rattle.task.specs.Sealing.{Ends}
use Rattle.task.specs.Sound.{Sound}
use Rattle.task.specs.Turns.{price_of}
use Rattle.task.specs.declared.edges.Edge.{Edge}
use Rattle.walk.specs.Rule.{next, taken}
use Rattle.walk.specs.WalkAt.{OneMore, Stepped}
use Rattle.walk.specs.Walks.{at_after}
use Rattle.walk.proofs.WalkAt.{stepped}
use Rattle.walk.proofs.ExitTables.{table_tabled}
use Rattle.judge.specs.Claiming.{Best, walk_from}
use Rattle.judge.specs.Handing.{next_of, walk_on}
use Rattle.judge.specs.Stages.{Standing}
use Rattle.judge.specs.declared.stages.Proof.TheVariants.{Certified}
use Rattle.history.proofs.HandedOut.{its_claim}
use Rattle.history.proofs.Meaning.{Low, Holds}

-- ---- the nodes of a case are 0 to 31

low_at : (es : List Edge) → All Low es → (x : ℕ) → Low (edge_at es x)
low_at es low x = ⊎_elim
    (λ (is : x < length es). All-get_or Low es x no_edge is low)
    (λ (past : length es ≤ x). subst Low (sym (get_or_past es x no_edge past)) (record { tail = omega arith; head = omega arith }))
    (cases_lt x (length es))

start_low : (es : List Edge) → All Low es → (s : ℕ) → Start es s → s ≤ 31
start_low es low s is =
    let l = low_at es low is.node.edge in
    ⊎_elim (λ h. omega (arith, l.tail)) (λ h. omega (arith, l.head)) is.node.named

at_low : (es : List Edge) → All Low es → (v : ℕ) → v ≤ 31 → (xs : List ℕ) → at_after es v xs ≤ 31
at_low es low v h [] = h
at_low es low v h (x ∷ xs) = at_low es low (head_of es x) (low_at es low x).head xs

-- a claim as it stands from its acceptance on
abbrev pub stands_from : Sense → Pair → List Edge → ℕ → ℕ → List ℕ → Standing
stands_from sense p es s e ts = record { sense = sense; proof = Certified; price = p; walk = walk_from es s e ts }

-- nothing is handed out yet
pub holds_first : (sense : Sense) (le : Pair → Pair → Bool) (es : List Edge) (rows : List Row) (s e : ℕ) (ts : List ℕ) (p : Pair) →
    Ends es s e → Sound es rows s e ts → p ≡ price_of sense es ts → Best sense (no_better sense le) es rows p → Holds le es rows s e (stands_from sense p es s e ts) ts []
holds_first sense le es rows s e ts p ends sound costs best = record {
  ends = ends;
  sound = sound;
  best = λ proved. best;
  costs = costs;
  all_is = refl;
  exits_are = refl;
  stands = record { follows = tt; left_is = refl; at_is = refl };
}

module _ (le : Pair → Pair → Bool) (es : List Edge) (rows : List Row) (s e : ℕ) (claim : Standing) (ts handed : List ℕ) (low : All Low es) (holds : Holds le es rows s e claim ts handed) where
  -- by its table the case takes what the rule takes
  pub next_is : next_of es e claim.walk ≡ next es ts e claim.walk.left claim.walk.at
  next_is =
      let node : claim.walk.at < 32 = omega (arith, at_low es low s (start_low es low s holds.ends.start.is) handed, holds.stands.at_is) in
      ap (λ last. taken es claim.walk.left claim.walk.at e last) (ap (λ exits. get_or exits claim.walk.at 0) holds.exits_are ∙ (table_tabled es ts e).all claim.walk.at node)

  pub step_says : (r : Option ℕ) → next_of es e claim.walk ≡ r → Stepped es s e ts handed claim.walk.left claim.walk.at r
  step_says r is = stepped es s e ts (its_claim es rows s e ts holds.ends holds.sound) handed claim.walk.left claim.walk.at holds.stands r (sym is ∙ next_is)

  pub holds_next : (x : ℕ) → next_of es e claim.walk ≡ Some x → Holds le es rows s e (record claim { walk = walk_on es claim.walk (Some x) }) ts (handed ++ (x ∷ []))
  holds_next x is =
      let more : OneMore es s e ts handed claim.walk.left claim.walk.at x = step_says (Some x) is in
      record { ends = holds.ends; sound = holds.sound; best = holds.best; costs = holds.costs; all_is = holds.all_is; exits_are = holds.exits_are; stands = more.stands }
