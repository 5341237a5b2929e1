-- What the answer of `ends` says of nodes and paths.
use Rattle.std.proofs.Common.{◌≡◌, ℕ, suc, ◌+◌, ◌<◌, ◌≤◌, max, true, eqb, ◌⊎◌, ◌↔◌, List, [], ◌∷◌, length, Some, None, Ok, Option, Result, ◌≢◌, not, sym, refl, ◌∙◌, subst, inl, inr, ⊎_elim, arith}
use Rattle.std.specs.Bool.{Decides}
use Rattle.std.specs.List.{All}
use Rattle.std.proofs.lemmas.Bool.{both_ways, eq-eqb, ne_eqb, and_parts, and_from, not-true, not-false, not_from_true, not_from_false}
use Rattle.std.proofs.lemmas.List.Elements.{All-head, All-tail}
use Rattle.std.proofs.lemmas.List.Recursion.{max_bounds, or_at, or_from_places}
use Rattle.task.specs.declared.edges.Edge.{Edge}
use Rattle.task.specs.declared.edges.Side.{Side}
use Rattle.task.specs.declared.edges.Side.TheVariants.{Tail, Head}
use Rattle.task.specs.declared.faults.GraphFault.{GraphFault}
use Rattle.task.specs.Lowest.{sole}
use Rattle.task.specs.Ways.{Way}
use Rattle.task.specs.Graph.{no_edge, tail_of, head_of, Node, Start, End, Path}
use Rattle.task.specs.Sides.{end_at, end_of, node_count, touched, untouched, is_live, reaches}
use Rattle.task.specs.Sealing.{OneStart, OneEnd, OnPath, Ends, Sealed, not_one_start, not_one_end, node_astray, sealed, EdgeOnPath, EveryEdge}
use Rattle.task.specs.EndsAnswer.{astray, unless_astray, ends_of, ends_answer}
use Rattle.task.proofs.Lowest.{first_says, Sole, sole_says}
use Rattle.task.proofs.Reach.{way_back}
use Rattle.task.proofs.Marks.{reached_way, way_reached}

-- ---- nodes

pub node_below : (es : List Edge) (v : ℕ) → Node es v → v < node_count es
node_below es v node = grind (arith, node.named, max_bounds node_count (λ (e : Edge). max (e.tail + 1) (e.head + 1)) refl (λ e es. refl) es node.edge no_edge node.exists)

first_or_later : (a b c v : ℕ) → v < max (max (a + 1) (b + 1)) c → ((v ≤ a) ⊎ (v ≤ b)) ⊎ (v < c)
first_or_later a b c v h = grind arith

pub below_node : (es : List Edge) (v : ℕ) → v < node_count es → Node es v
below_node [] v h = absurd (omega arith)
below_node (e ∷ es) v h = ⊎_elim
    (λ named. record { edge = 0; exists = omega arith; named = named })
    (λ low. let node = below_node es v low in record { edge = suc node.edge; exists = omega (arith, node.exists); named = node.named })
    (first_or_later e.tail e.head (node_count es) v h)

-- ---- nodes that no edge has on one side

untouched_tells : (side : Side) (es : List Edge) (v : ℕ) → Decides (untouched side es v) ((x : ℕ) → x < length es → end_of es side x ≢ v)
untouched_tells side es v =
    let has = λ (e : Edge). eqb (end_at side e) v in (
      λ h x low is. both_ways (touched side v es) (not-true _ h) (or_at (touched side v) has refl (λ e es. refl) es x no_edge low (eq-eqb _ _ is)),
      λ none. not_from_false _ (or_from_places (touched side v) has refl (λ e es. refl) es no_edge (λ x low. ne_eqb _ _ (none x low))),
    )

-- ---- paths

module _ (es : List Edge) where
  -- live edges taken from tail to head
  abbrev pub Forth : List ℕ → ℕ → ℕ → List ℕ → Type 0
  Forth ts = Way (length es) (end_of es Tail) (end_of es Head) (is_live ts)

  pub forth_path : (ts xs : List ℕ) (v e : ℕ) → Forth ts v e xs → Path es v e xs
  forth_path ts [] v e w = w
  forth_path ts (x ∷ xs) v e w = (w.0, w.1, forth_path ts xs (head_of es x) e w.3)

  pub path_forth : (ts xs : List ℕ) (v e : ℕ) → Path es v e xs → All (λ x. is_live ts x ≡ true) xs → Forth ts v e xs
  path_forth ts [] v e p all = p
  path_forth ts (x ∷ xs) v e p all = (p.0, p.1, All-head (λ y. is_live ts y ≡ true) x xs all, path_forth ts xs (head_of es x) e p.2 (All-tail (λ y. is_live ts y ≡ true) x xs all))

  -- v is reached from s and reaches e exactly if it lies on a path between them
  on_path : (s e v : ℕ) → Decides (not (astray es s e v)) (OnPath es s e v)
  on_path s e v = (
    λ h.
        let both = and_parts (reaches es [] Head s v) (reaches es [] Tail e v) (not-false _ (not-true _ h)) in
        let back = reached_way es [] Head s v both.0 in
        let comes = way_back (length es) (end_of es Head) (end_of es Tail) (is_live []) v s v back.0 [] back.1 refl in
        let forth = reached_way es [] Tail e v both.1 in
        record { before = comes.0; comes = forth_path [] comes.0 s v comes.1; after = forth.0; goes = forth_path [] forth.0 v e forth.1 },
    λ on.
        let back = way_back (length es) (end_of es Tail) (end_of es Head) (is_live []) s v s on.before [] (path_forth [] on.before s v on.comes (λ k d low. refl)) refl in
        let comes = way_reached es [] Head s v back.0 back.1 in
        let goes = way_reached es [] Tail e v on.after (path_forth [] on.after v e on.goes (λ k d low. refl)) in
        not_from_false _ (not_from_true _ (and_from (reaches es [] Head s v) (reaches es [] Tail e v) comes goes)),
  )

-- ---- the answer

module _ (es : List Edge) where
  a_start : (v : ℕ) → v < node_count es → untouched Head es v ≡ true → Start es v
  a_start v low h = record { node = below_node es v low; not_entered = (untouched_tells Head es v).0 h }

  an_end : (v : ℕ) → v < node_count es → untouched Tail es v ≡ true → End es v
  an_end v low h = record { node = below_node es v low; not_left = (untouched_tells Tail es v).0 h }

  one_start : (s : ℕ) → Sole (untouched Head es) (node_count es) (Some s) → OneStart es s
  one_start s so = record { is = a_start s so.0 so.1; only = λ v st. so.2 v (node_below es v st.node) ((untouched_tells Head es v).1 st.not_entered) }

  one_end : (e : ℕ) → Sole (untouched Tail es) (node_count es) (Some e) → OneEnd es e
  one_end e so = record { is = an_end e so.0 so.1; only = λ v en. so.2 v (node_below es v en.node) ((untouched_tells Tail es v).1 en.not_left) }

  by_ends : (a b : Option ℕ) → Sole (untouched Head es) (node_count es) a → Sole (untouched Tail es) (node_count es) b → Sealed es (ends_of es a b)
  by_ends None b none so =
      not_one_start refl (λ s one. none s (node_below es s one.is.node) ((untouched_tells Head es s).1 one.is.not_entered) (λ v low h. one.only v (a_start v low h)))
  by_ends (Some s) None so none =
      not_one_end refl s (one_start s so) (λ e one. none e (node_below es e one.is.node) ((untouched_tells Tail es e).1 one.is.not_left) (λ v low h. one.only v (an_end v low h)))
  by_ends (Some s) (Some e) so to =
      let starts = one_start s so in
      let ends = one_end e to in
      first_says (λ o. Sealed es (unless_astray (s, e) o)) (Node es) (OnPath es s e) (astray es s e) (node_count es) (node_below es) (below_node es) (λ v low. on_path es s e v)
      (λ v low. node_astray v refl (record { start = s; starts = starts; end = e; ends = ends; node = low.place; off = low.fails; lowest = low.lowest }))
      (λ between. sealed s e refl (record { start = starts; end = ends; between = between }))

  pub answer_says : Sealed es (ends_answer es)
  answer_says = by_ends (sole (untouched Head es) (node_count es)) (sole (untouched Tail es) (node_count es)) (sole_says (untouched Head es) (node_count es)) (sole_says (untouched Tail es) (node_count es))

  -- ---- the ends are accepted, and nothing else

  module _ (r : Result (ℕ × ℕ) GraphFault) (s e : ℕ) where
    pub exactly : Sealed es r → (r ≡ Ok (s, e)) ↔ Ends es s e
    exactly (not_one_start is none) = (λ ok. cc, λ want. absurd (none s want.start))
    exactly (not_one_end is _ _ none) = (λ ok. cc, λ want. absurd (none e want.end))
    exactly (node_astray v is low) =
        let off = λ (want : Ends es s e). low.off (rw (← low.starts.only s want.start.is, ← low.ends.only e want.end.is) (want.between v low.node)) in
        (λ ok. cc, λ want. absurd (off want))
    exactly (sealed a b is ends) = (
      λ ok. let same : ◌≡◌ {A = ℕ × ℕ} (a, b) (s, e) = cc in subst (λ (p : ℕ × ℕ). Ends es p.0 p.1) same ends,
      λ want. let start : a ≡ s = want.start.only a ends.start.is in let end : b ≡ e = want.end.only b ends.end.is in cc,
    )

  -- ---- every edge between the ends

  module _ (s e : ℕ) (ends : Ends es s e) where
    edge_between : (x : ℕ) → x < length es → EdgeOnPath es s e x
    edge_between x low =
        let tail = ends.between (tail_of es x) (record { edge = x; exists = low; named = inl (omega arith) }) in
        let head = ends.between (head_of es x) (record { edge = x; exists = low; named = inr (omega arith) }) in
        record { before = tail.before; comes = tail.comes; after = head.after; goes = head.goes }

    -- on the way from the start to any edge, some edge leaves the start
    leaves : (x : ℕ) → x < length es → (xs : List ℕ) → Path es s (tail_of es x) xs → s ≡ e → ⊥
    leaves x low [] p is = ends.end.is.not_left x low (sym p ∙ is)
    leaves x low (y ∷ ys) p is = ends.end.is.not_left y p.0 (p.1 ∙ is)

    pub every_edge : EveryEdge es s e
    every_edge = record {
      apart = let x = ends.start.is.node.edge in let low = ends.start.is.node.exists in leaves x low (edge_between x low).before (edge_between x low).comes;
      between = edge_between;
    }
