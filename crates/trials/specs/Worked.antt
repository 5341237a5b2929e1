-- The worked cases of the rules.
use Rattle.std.specs.Prelude.{All, ℕ, ◌≤◌, List, [], ◌∷◌, ◌++◌, ℤ, pos, negsuc}
use Rattle.history.specs.Answers.{Said, number, ends, price, next, done, agreed, refused}
use Rattle.history.specs.Calls.{Request, edge_with, row, seal, claim, void, step}
use Rattle.price.specs.Tariffs.{by_cycles, one_read, by_weight, one_cycle}
use Rattle.judge.specs.declared.refusals.Refusal.TheVariants.{Turns, Tree}
use Rattle.certificate.specs.declared.faults.TreeFault.TheVariants.{NotOneTree, Range, AllowanceShort, BoundTooHigh}
use Rattle.task.specs.declared.faults.TurnsFault.TheVariants.{Stranded, RowBroken}
use Rattle.trials.specs.Playing.{Trial, IsAnswered}

-- ---- the loop: enter, sample, retry, leave

abbrev pub loop : List Request
loop = edge_with 0 1 0 20 1 ∷ edge_with 1 2 1 50 4 ∷ edge_with 2 1 2 5 0 ∷ edge_with 2 3 3 10 2 ∷ []

-- the same, where only the retry costs anything
abbrev pub cheap_loop : List Request
cheap_loop = edge_with 0 1 0 0 0 ∷ edge_with 1 2 1 0 0 ∷ edge_with 2 1 2 1 0 ∷ edge_with 2 3 3 0 0 ∷ []

-- the retry at most three times as often as the entry; twice the retry at most three times the entry; no sample
abbrev pub three_retries : Request
three_retries = row (pos 1) (pos 0) (negsuc 2 ∷ pos 0 ∷ pos 1 ∷ [])

abbrev pub half_integral : Request
half_integral = row (pos 1) (pos 0) (negsuc 2 ∷ pos 0 ∷ pos 2 ∷ [])

abbrev pub no_sample : Request
no_sample = row (pos 1) (pos 0) (pos 0 ∷ pos 1 ∷ [])

abbrev pub drafted : List Request → Request → List Request → List Request
drafted edges limit calls = edges ++ (limit ∷ seal ∷ calls)

abbrev pub drafted_said : List Said → List Said
drafted_said answers = number 0 ∷ number 1 ∷ number 2 ∷ number 3 ∷ number 0 ∷ ends 0 3 ∷ answers

abbrev pub by_cycles_first : List Request → List Said → Trial
by_cycles_first calls answers = record { le = by_cycles; unit = one_read; calls = calls; answers = answers }

-- a claim about the loop with the retry row
abbrev pub retry : List ℕ → List ℤ → Said → Trial
retry turns tree said = by_cycles_first (drafted loop three_retries (claim turns tree ∷ [])) (drafted_said (said ∷ []))

-- one leaf of this scale, with this potential of the start
abbrev pub one_leaf : ℕ → ℕ → List ℤ
one_leaf scale start = pos 0 ∷ pos scale ∷ pos start ∷ pos 19 ∷ pos 60 ∷ pos 6 ∷ pos 10 ∷ pos 2 ∷ pos 0 ∷ pos 0 ∷ pos 55 ∷ pos 4 ∷ []

abbrev pub one_short : List ℤ
one_short = pos 0 ∷ pos 1 ∷ pos 245 ∷ pos 19 ∷ pos 60 ∷ pos 6 ∷ pos 10 ∷ pos 2 ∷ pos 0 ∷ pos 0 ∷ pos 55 ∷ []

abbrev pub most : List ℕ
most = 1 ∷ 4 ∷ 3 ∷ 1 ∷ []

-- the loop with the half-integral row: one split of the retry at 1, and in its second leaf these reads of the path row's multiplier
abbrev pub one_split : ℕ → List ℤ
one_split last =
    pos 1 ∷ pos 2 ∷ pos 1
    ∷ pos 0 ∷ pos 1 ∷ pos 80 ∷ pos 7 ∷ pos 60 ∷ pos 6 ∷ pos 10 ∷ pos 2 ∷ pos 0 ∷ pos 0 ∷ pos 0 ∷ pos 0 ∷ pos 55 ∷ pos 4
    ∷ pos 0 ∷ pos 0 ∷ pos 3 ∷ pos 0 ∷ pos 0 ∷ pos 0 ∷ pos 0 ∷ pos 0 ∷ pos 0 ∷ pos 0 ∷ pos 1 ∷ pos 0 ∷ pos last ∷ pos 0
    ∷ []

abbrev pub once : List ℕ
once = 1 ∷ 2 ∷ 1 ∷ 1 ∷ []

abbrev pub halves : ℕ → Said → Trial
halves last said = by_cycles_first (drafted loop half_integral (claim once (one_split last) ∷ [])) (drafted_said (said ∷ []))

-- a leaf of scale 2, where only the retry costs anything
abbrev pub scale_two : List ℤ
scale_two = pos 0 ∷ pos 2 ∷ pos 3 ∷ pos 0 ∷ pos 0 ∷ pos 0 ∷ pos 0 ∷ pos 0 ∷ pos 0 ∷ pos 0 ∷ pos 1 ∷ pos 0 ∷ []

abbrev pub at_scale_two : List Request
at_scale_two = drafted cheap_loop half_integral (claim once scale_two ∷ [])

-- ---- the table

abbrev pub table : List Trial
table =
    -- the loop with the retry row, and its steps
    by_cycles_first (drafted loop three_retries (claim most (one_leaf 1 245) ∷ step ∷ step ∷ step ∷ step ∷ step ∷ step ∷ step ∷ step ∷ step ∷ step ∷ []))
    (drafted_said (price (pos 245, pos 19) ∷ next 0 ∷ next 1 ∷ next 2 ∷ next 1 ∷ next 2 ∷ next 1 ∷ next 2 ∷ next 1 ∷ next 3 ∷ done ∷ []))
    -- a potential too low
    ∷ retry most (one_leaf 1 244) (refused (Tree (AllowanceShort 0 0)))
    -- a cheaper run claimed
    ∷ retry (1 ∷ 3 ∷ 2 ∷ 1 ∷ []) (one_leaf 1 245) (refused (Tree (BoundTooHigh 0)))
    -- a row broken
    ∷ retry (1 ∷ 5 ∷ 4 ∷ 1 ∷ []) (one_leaf 1 245) (refused (Turns (RowBroken 0)))
    -- a half-integral row with one split, and its second leaf too weak
    ∷ halves 2 (price (pos 135, pos 11))
    ∷ halves 1 (refused (Tree (BoundTooHigh 1)))
    -- a leaf of scale 2 under weight 2, and cycles first
    ∷ record { le = by_weight 2; unit = one_cycle; calls = at_scale_two; answers = drafted_said (price (pos 1, pos 0) ∷ []) }
    ∷ by_cycles_first at_scale_two (drafted_said (refused (Tree (BoundTooHigh 0)) ∷ []))
    -- no run at all
    ∷ by_cycles_first
    (drafted loop no_sample (void (pos 0 ∷ pos 0 ∷ pos 0 ∷ pos 0 ∷ pos 0 ∷ pos 0 ∷ pos 1 ∷ pos 0 ∷ pos 1 ∷ pos 0 ∷ pos 1 ∷ pos 0 ∷ []) ∷ []))
    (drafted_said (agreed ∷ []))
    -- a list one number short
    ∷ retry most one_short (refused (Tree NotOneTree))
    -- a scale out of range, and one that proves nothing
    ∷ retry most (one_leaf 1001 245) (refused (Tree (Range 1)))
    ∷ retry most (one_leaf 1000 245) (refused (Tree (AllowanceShort 0 0)))
    ∷ []

-- ---- balanced turns that are no run

-- a block, cycles and reads in range
pub record Costs : Type 0 where
  pub block : ℕ
  pub cycles : ℕ
  pub reads : ℕ
  pub low : block ≤ 63
  pub few_cycles : cycles ≤ 65535
  pub few_reads : reads ≤ 65535

abbrev pub an_edge : ℕ → ℕ → Costs → Request
an_edge tail head c = edge_with tail head c.block c.cycles c.reads

-- a loop that the run never enters: refused at edge 3, whatever the blocks, the prices and the tree
abbrev pub BalancedButNoRun : Type 0
BalancedButNoRun = (a b c d e : Costs) (tree : List ℤ) →
    IsAnswered (by_cycles_first
    (an_edge 0 1 a ∷ an_edge 1 3 b ∷ an_edge 1 2 c ∷ an_edge 2 2 d ∷ an_edge 2 3 e ∷ seal ∷ claim (1 ∷ 1 ∷ 0 ∷ 5 ∷ 0 ∷ []) tree ∷ [])
    (number 0 ∷ number 1 ∷ number 2 ∷ number 3 ∷ number 4 ∷ ends 0 3 ∷ refused (Turns (Stranded 3)) ∷ []))

pub record WorkedCasesStand : Type 0 where
  pub cases : All IsAnswered table
  pub no_run : BalancedButNoRun
