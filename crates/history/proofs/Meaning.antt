-- What a case holds, by its history: what each stage means.
use Rattle.std.proofs.Common.{◌≡◌, ℕ, ◌≤◌, Bool, cond, ◌⊎◌, List, [], ◌∷◌, ◌++◌, sum, All, Some, None, Option, refl, ap, ◌∙◌, inl, inr, append-nil}
use Rattle.price.specs.Pairs.{Pair}
use Rattle.price.specs.Senses.{no_better}
use Rattle.task.specs.Rows.{Row, KeepsAll}
use Rattle.task.specs.Sealing.{Ends}
use Rattle.task.specs.Sound.{Sound}
use Rattle.task.specs.Turns.{price_of}
use Rattle.task.specs.declared.edges.Edge.{Edge}
use Rattle.walk.specs.WalkAt.{WalkAt}
use Rattle.walk.specs.Tables.{exit_table}
use Rattle.judge.specs.Cases.{Contents}
use Rattle.judge.specs.Claiming.{Best}
use Rattle.judge.specs.Stages.{Stage, Standing, draft, sealed, standing, void}
use Rattle.judge.specs.declared.stages.Proof.TheVariants.{Certified}
use Rattle.history.specs.History.{Event, History, accepted}
use Rattle.history.specs.Known.{Claimed, Bearing, quiet, bearing, claimed_by, voided_by, edge_by, row_by, edges_of, rows_of}
use Rattle.history.proofs.LastEvent.{edges_more, rows_more}
use Rattle.history.proofs.StandsAlone.{Alone, on, then}

-- an edge between two of the nodes 0 to 31
pub record Low (e : Edge) : Type 0 where
  pub tail : e.tail ≤ 31
  pub head : e.head ≤ 31

-- in this history these stand alone: a claim, and a void claim
abbrev pub Stood : Option (Claimed × List ℕ) → Option (Unit {0} × List ℕ) → History → Type 0
Stood claimed voided h = Alone claimed_by (λ x. refl) refl claimed h × Alone voided_by (λ x. refl) refl voided h

-- what was claimed by turns for which this stands
abbrev pub claim_of : Standing → List ℕ → Claimed
claim_of claim ts = record { sense = claim.sense; proof = claim.proof; turns = ts; price = claim.price }

module _ (le : Pair → Pair → Bool) where
  -- a claim that stands was made by these turns, and the steps since have led where its walk stands
  pub record Holds (es : List Edge) (rows : List Row) (s e : ℕ) (claim : Standing) (ts handed : List ℕ) : Type 0 where
    pub ends : Ends es s e
    pub sound : Sound es rows s e ts
    pub best : claim.proof ≡ Certified → Best claim.sense (no_better claim.sense le) es rows claim.price
    pub costs : claim.price ≡ price_of claim.sense es ts
    pub all_is : claim.walk.all ≡ sum ts
    pub exits_are : claim.walk.exits ≡ exit_table es ts e
    pub stands : WalkAt es s e ts handed claim.walk.left claim.walk.at

  pub record OneClaim (h : History) (es : List Edge) (rows : List Row) (s e : ℕ) (claim : Standing) : Type 0 where
    pub turns : List ℕ
    pub handed : List ℕ
    pub stood : Stood (Some (claim_of claim turns, handed)) None h
    pub holds : Holds es rows s e claim turns handed

  abbrev pub ByStage : History → List Edge → List Row → Stage → Type 0
  ByStage h es rows draft = Stood None None h
  ByStage h es rows (sealed s e) = Stood None None h × Ends es s e
  ByStage h es rows (standing s e claim) = OneClaim h es rows s e claim
  ByStage h es rows (void s e) = (handed : List ℕ) × (Stood None (Some (tt, handed)) h × Ends es s e × ((run : List ℕ) → KeepsAll es rows run → ⊥))

  pub record Meaning (h : History) (c : Contents) : Type 0 where
    pub edges : edges_of h ≡ c.edges
    pub rows : rows_of h ≡ c.rows
    pub low : All Low c.edges
    pub stage : ByStage h c.edges c.rows c.stage

  module _ (h : History) (e : Event) where
    -- what stands behind an event of this bearing
    pub stands_then : (b : Bearing) → bearing e ≡ b → (claimed : Option (Claimed × List ℕ)) (voided : Option (Unit {0} × List ℕ)) →
        (claimed ≡ None) ⊎ (claimed_by b ≡ None) → (voided ≡ None) ⊎ (voided_by b ≡ None) → Stood claimed voided h →
        Stood (on claimed_by (λ x. refl) refl b claimed) (on voided_by (λ x. refl) refl b voided) (h ++ (e ∷ []))
    stands_then b is claimed voided one alone stood =
        (then claimed_by (λ x. refl) refl h e b is claimed one stood.0, then voided_by (λ x. refl) refl h e b is voided alone stood.1)

    -- a quiet event leaves what every stage means
    pub stays : bearing e ≡ quiet → (es : List Edge) (rows : List Row) (stage : Stage) → ByStage h es rows stage → ByStage (h ++ (e ∷ [])) es rows stage
    stays is es rows draft by = stands_then quiet is None None (inl refl) (inl refl) by
    stays is es rows (sealed s t) (stood, two) = (stands_then quiet is None None (inl refl) (inl refl) stood, two)
    stays is es rows (standing s t claim) by =
        record { turns = by.turns; handed = by.handed; stood = stands_then quiet is (Some (claim_of claim by.turns, by.handed)) None (inr refl) (inl refl) by.stood; holds = by.holds }
    stays is es rows (void s t) (handed, (stood, two, no_run)) = (handed, (stands_then quiet is None (Some (tt, handed)) (inl refl) (inr refl) stood, two, no_run))

    -- an event that adds no edge and no row
    pub moved : (c : Contents) (stage : Stage) → cond (accepted e.answer) (edge_by e.call) [] ≡ [] → cond (accepted e.answer) (row_by e.call) [] ≡ [] →
        ByStage (h ++ (e ∷ [])) c.edges c.rows stage → Meaning h c → Meaning (h ++ (e ∷ [])) (record c { stage = stage })
    moved c stage no_edge no_row by m = record {
      edges = edges_more h e ∙ ap (λ l. edges_of h ++ l) no_edge ∙ append-nil (edges_of h) ∙ m.edges;
      rows = rows_more h e ∙ ap (λ l. rows_of h ++ l) no_row ∙ append-nil (rows_of h) ∙ m.rows;
      low = m.low;
      stage = by;
    }

    -- and means nothing for what stands
    pub unmoved : (c : Contents) → bearing e ≡ quiet → cond (accepted e.answer) (edge_by e.call) [] ≡ [] → cond (accepted e.answer) (row_by e.call) [] ≡ [] → Meaning h c → Meaning (h ++ (e ∷ [])) c
    unmoved c is no_edge no_row m = moved c c.stage no_edge no_row (stays is c.edges c.rows c.stage m.stage) m
