-- The directions that are put together after a step are the successors.
use Rattle.std.proofs.Common.{◌≡◌, ◌≢◌, ◌↔◌, ◌⊎◌, Bool, false, true, inl, inr, IsTrue, Some, refl, ap, sym, subst, ◌∙◌}
use Rattle.std.proofs.lemmas.Bool.{cases_eq, both_ways, false≢true}
use Rattle.nav_types.specs.declared.cells.Cell.{Cell}
use Rattle.nav_types.specs.declared.directions.Dir.{Dir}
use Rattle.nav_types.specs.declared.directions.Dir.TheVariants.{N, E, S, W, NE, SE, SW, NW}
use Rattle.nav_types.specs.declared.directions.DirSet.{DirSet}
use Rattle.nav_types.specs.Directions.{is_straight, row_part, column_part}
use Rattle.nav_types.specs.DirSets.{holds}
use Rattle.nav_types.specs.Beside.{IsFreeBeside, IsLegalFrom}
use Rattle.nav_types.proofs.Walking.{straight_step, legal_is_free, own_parts, ways_straight}
use Rattle.jump_scan.specs.declared.turns.Side.{Side}
use Rattle.jump_scan.specs.declared.turns.Side.TheVariants.{Left, Right}
use Rattle.jump_scan.specs.Turns.{ahead_to, aside_to, IsTurn}
use Rattle.jump_scan.specs.Successors.{IsForcing, IsForced, IsSuccessor}
use Rattle.jump_scan.specs.inner.Turning.{IsLegalTurn}
use Rattle.jump_scan.proofs.Keeping.{place_of_dir, same_place}
use Rattle.jump_scan.proofs.Turning.{aside_straight, free_aside}

-- the two straight parts of the direction are free
abbrev pub AreParts : (Cell → Bool) → Cell → Dir → Type 0
AreParts passes cell dir = IsFreeBeside passes cell (row_part dir) × IsFreeBeside passes cell (column_part dir)

turn_parts : (side : Side) (dir : Dir) → is_straight dir ≡ true
    → ((row_part (ahead_to side dir) ≡ dir) × (column_part (ahead_to side dir) ≡ aside_to side dir))
    ⊎ ((row_part (ahead_to side dir) ≡ aside_to side dir) × (column_part (ahead_to side dir) ≡ dir))
turn_parts Left N straight = inr (refl, refl)
turn_parts Left E straight = inl (refl, refl)
turn_parts Left S straight = inr (refl, refl)
turn_parts Left W straight = inl (refl, refl)
turn_parts Right N straight = inr (refl, refl)
turn_parts Right E straight = inl (refl, refl)
turn_parts Right S straight = inr (refl, refl)
turn_parts Right W straight = inl (refl, refl)
turn_parts side NE straight = absurd (false≢true straight)
turn_parts side SE straight = absurd (false≢true straight)
turn_parts side SW straight = absurd (false≢true straight)
turn_parts side NW straight = absurd (false≢true straight)

-- a straight step to a free cell is legal
straight_is_legal : (passes : Cell → Bool) (cell : Cell) (dir : Dir) → is_straight dir ≡ true → IsTrue (passes cell) → IsFreeBeside passes cell dir
    → IsLegalFrom passes cell dir
straight_is_legal passes cell dir straight here free = (free.0, straight_step passes dir cell free.0 straight free.1.0 here free.1.1)

-- a set with one direction more
with_one : (old new : DirSet) (dir : Dir) → IsTrue (holds new dir) → ((other : Dir) → other ≢ dir → holds new other ≡ holds old other)
    → (other : Dir) → IsTrue (holds new other) ↔ (IsTrue (holds old other) ⊎ (other ≡ dir))
with_one old new dir added others other = elim (cases_eq (place_of_dir other) (place_of_dir dir)) [
  | inl same ↦
      let one = same_place other dir same in (
        (λ has. inr one),
        (λ is. subst (λ (way : Dir). IsTrue (holds new way)) (sym one) added),
      )
  | inr apart ↦
      let still = others other (λ one. apart (ap place_of_dir one)) in (
        (λ has. inl (sym still ∙ has)),
        (λ is. elim is [
          | inl had ↦ still ∙ had
          | inr one ↦ absurd (apart (ap place_of_dir one))
        ]),
      )
]

-- what is gathered after a diagonal step
pub kept_diagonal : (passes : Cell → Bool) (cell : Cell) (arrived row column : Dir) (is_row is_column is_onward : Bool)
    (none along_row along_both all : DirSet)
    → is_straight arrived ≡ false → IsTrue (passes cell) → row ≡ row_part arrived → column ≡ column_part arrived
    → IsTrue is_row ↔ IsFreeBeside passes cell row → IsTrue is_column ↔ IsFreeBeside passes cell column
    → IsTrue is_onward ↔ IsLegalFrom passes cell arrived
    → ((dir : Dir) → holds none dir ≡ false)
    → ((dir : Dir) → IsTrue (holds along_row dir) ↔ (IsTrue (holds none dir) ⊎ (IsTrue is_row × (dir ≡ row))))
    → ((dir : Dir) → IsTrue (holds along_both dir) ↔ (IsTrue (holds along_row dir) ⊎ (IsTrue is_column × (dir ≡ column))))
    → ((dir : Dir) → IsTrue (holds all dir) ↔ (IsTrue (holds along_both dir) ⊎ (IsTrue is_onward × (dir ≡ arrived))))
    → (dir : Dir) → IsTrue (holds all dir) ↔ IsSuccessor passes cell (Some arrived) dir
kept_diagonal passes cell arrived row column is_row is_column is_onward none along_row along_both all diagonal here at_row at_column rows columns onward
    empty with_row with_column with_onward dir =
    let Legal = λ (way : Dir). IsLegalFrom passes cell way in
    let Free = λ (way : Dir). IsFreeBeside passes cell way in
    let straight_row : is_straight row ≡ true = ap is_straight at_row ∙ (ways_straight arrived).0 in
    let straight_column : is_straight column ≡ true = ap is_straight at_column ∙ (ways_straight arrived).1 in (
      (λ has. elim ((with_onward dir).0 has) [
        | inl both ↦ elim ((with_column dir).0 both) [
          | inl first ↦ elim ((with_row dir).0 first) [
            | inl never ↦ absurd (both_ways (holds none dir) (empty dir) never)
            | inr by_row ↦ (subst Legal (sym by_row.1) (straight_is_legal passes cell row straight_row here (rows.0 by_row.0)), inl (inr (inl (by_row.1 ∙ at_row))))
          ]
          | inr by_column ↦ (
            subst Legal (sym by_column.1) (straight_is_legal passes cell column straight_column here (columns.0 by_column.0)),
            inl (inr (inr (by_column.1 ∙ at_column))),
          )
        ]
        | inr on ↦ (subst Legal (sym on.1) (onward.0 on.0), inl (inl on.1))
      ]),
      (λ is. elim is.1 [
        | inl natural ↦ elim natural [
          | inl same ↦ (with_onward dir).1 (inr (onward.1 (subst Legal same is.0), same))
          | inr part ↦ elim part [
            | inl by_row ↦ (with_onward dir).1 (inl ((with_column dir).1 (inl ((with_row dir).1 (inr (
              rows.1 (subst Free (by_row ∙ sym at_row) (legal_is_free passes dir cell is.0).0),
              by_row ∙ sym at_row,
            ))))))
            | inr by_column ↦ (with_onward dir).1 (inl ((with_column dir).1 (inr (
              columns.1 (subst Free (by_column ∙ sym at_column) (legal_is_free passes dir cell is.0).0),
              by_column ∙ sym at_column,
            ))))
          ]
        ]
        | inr forced ↦ absurd (both_ways (is_straight arrived) diagonal forced.1.0.0)
      ]),
    )

forced_cases : (passes : Cell → Bool) (cell : Cell) (arrived dir : Dir) → IsForced passes cell arrived dir
    → (IsForcing passes cell arrived Left × IsTurn Left arrived dir) ⊎ (IsForcing passes cell arrived Right × IsTurn Right arrived dir)
forced_cases passes cell arrived dir (Left, is) = inl is
forced_cases passes cell arrived dir (Right, is) = inr is

-- what is gathered after a straight step
pub kept_straight : (passes : Cell → Bool) (cell : Cell) (arrived : Dir) (is_onward : Bool) (none ahead left all : DirSet)
    → is_straight arrived ≡ true → IsTrue (passes cell) → IsTrue is_onward ↔ IsFreeBeside passes cell arrived
    → ((dir : Dir) → holds none dir ≡ false)
    → ((dir : Dir) → IsTrue (holds ahead dir) ↔ (IsTrue (holds none dir) ⊎ (IsTrue is_onward × (dir ≡ arrived))))
    → ((dir : Dir) → IsTrue (holds left dir) ↔ (IsTrue (holds ahead dir) ⊎ IsLegalTurn passes cell arrived Left dir))
    → ((dir : Dir) → IsTrue (holds all dir) ↔ (IsTrue (holds left dir) ⊎ IsLegalTurn passes cell arrived Right dir))
    → (dir : Dir) → IsTrue (holds all dir) ↔ IsSuccessor passes cell (Some arrived) dir
kept_straight passes cell arrived is_onward none ahead left all straight here onward empty with_ahead with_left with_right dir =
    let Legal = λ (way : Dir). IsLegalFrom passes cell way in
    let Free = λ (way : Dir). IsFreeBeside passes cell way in
    let parts = own_parts arrived straight in
    let straight_on : dir ≡ arrived → IsLegalFrom passes cell dir → IsTrue (holds all dir) =
    λ same legal. (with_right dir).1 (inl ((with_left dir).1 (inl ((with_ahead dir).1 (inr (onward.1 (subst Free same (legal_is_free passes dir cell legal).0), same)))))) in (
      (λ has. elim ((with_right dir).0 has) [
        | inl more ↦ elim ((with_left dir).0 more) [
          | inl first ↦ elim ((with_ahead dir).0 first) [
            | inl never ↦ absurd (both_ways (holds none dir) (empty dir) never)
            | inr on ↦ (subst Legal (sym on.1) (straight_is_legal passes cell arrived straight here (onward.0 on.0)), inl (inl on.1))
          ]
          | inr turn ↦ (turn.1.1, inr (Left, (turn.0, turn.1.0)))
        ]
        | inr turn ↦ (turn.1.1, inr (Right, (turn.0, turn.1.0)))
      ]),
      (λ is. elim is.1 [
        | inl natural ↦ elim natural [
          | inl same ↦ straight_on same is.0
          | inr part ↦ elim part [
            | inl by_row ↦ straight_on (by_row ∙ parts.0) is.0
            | inr by_column ↦ straight_on (by_column ∙ parts.1) is.0
          ]
        ]
        | inr forced ↦ elim (forced_cases passes cell arrived dir forced) [
          | inl one ↦ (with_right dir).1 (inl ((with_left dir).1 (inr (one.0, (one.1, is.0)))))
          | inr two ↦ (with_right dir).1 (inr (two.0, (two.1, is.0)))
        ]
      ]),
    )

-- beside a free cell aside, the parts of the turn ahead are free exactly where the cell straight on is
pub parts_of_turn : (passes : Cell → Bool) (cell : Cell) (arrived ahead : Dir) (side : Side) (onward : Bool) → is_straight arrived ≡ true
    → ahead ≡ ahead_to side arrived → IsFreeBeside passes cell (aside_to side arrived) → IsTrue onward ↔ IsFreeBeside passes cell arrived
    → IsTrue onward ↔ AreParts passes cell ahead
parts_of_turn passes cell arrived ahead side onward straight at aside is =
    let Free = λ (way : Dir). IsFreeBeside passes cell way in
    let P = λ (way : Dir). IsTrue onward ↔ AreParts passes cell way in
    subst P (sym at) (elim (turn_parts side arrived straight) [
      | inl same ↦ (
        (λ on. (subst Free (sym same.0) (is.0 on), subst Free (sym same.1) aside)),
        (λ both. is.1 (subst Free same.0 both.0)),
      )
      | inr same ↦ (
        (λ on. (subst Free (sym same.0) aside, subst Free (sym same.1) (is.0 on))),
        (λ both. is.1 (subst Free same.1 both.1)),
      )
    ])

-- without a free cell aside no turn is legal
pub no_turn : (passes : Cell → Bool) (cell : Cell) (arrived : Dir) (side : Side) → is_straight arrived ≡ true
    → (IsForcing passes cell arrived side × IsFreeBeside passes cell (aside_to side arrived) → ⊥)
    → (dir : Dir) → IsLegalTurn passes cell arrived side dir → ⊥
no_turn passes cell arrived side straight none dir turn =
    none (turn.0, free_aside passes cell arrived dir side straight turn.1.0 turn.1.1)

-- the turns to a side whose turns are forced
pub kept_turns : (passes : Cell → Bool) (cell : Cell) (arrived ahead aside : Dir) (side : Side) (legal : Bool) (set more all : DirSet)
    → IsTrue (passes cell) → ahead ≡ ahead_to side arrived → aside ≡ aside_to side arrived
    → IsForcing passes cell arrived side × IsFreeBeside passes cell (aside_to side arrived) → IsTrue legal ↔ IsLegalFrom passes cell ahead
    → IsTrue (holds more aside) → ((other : Dir) → other ≢ aside → holds more other ≡ holds set other)
    → ((dir : Dir) → IsTrue (holds all dir) ↔ (IsTrue (holds more dir) ⊎ (IsTrue legal × (dir ≡ ahead))))
    → (dir : Dir) → IsTrue (holds all dir) ↔ (IsTrue (holds set dir) ⊎ IsLegalTurn passes cell arrived side dir)
kept_turns passes cell arrived ahead aside side legal set more all here at_ahead at_aside forcing is_legal added others with_ahead dir =
    let Legal = λ (way : Dir). IsLegalFrom passes cell way in
    let one = with_one set more aside added others dir in
    let aside_legal = straight_is_legal passes cell (aside_to side arrived) (aside_straight side arrived forcing.0.0) here forcing.1 in (
      (λ has. elim ((with_ahead dir).0 has) [
        | inl had ↦ elim (one.0 had) [
          | inl before ↦ inl before
          | inr same ↦ inr (forcing.0, (inr (same ∙ at_aside), subst Legal (sym (same ∙ at_aside)) aside_legal))
        ]
        | inr on ↦ inr (forcing.0, (inl (on.1 ∙ at_ahead), subst Legal (sym on.1) (is_legal.0 on.0)))
      ]),
      (λ is. elim is [
        | inl before ↦ (with_ahead dir).1 (inl (one.1 (inl before)))
        | inr turn ↦ elim turn.1.0 [
          | inl same ↦ (with_ahead dir).1 (inr (is_legal.1 (subst Legal (same ∙ sym at_ahead) turn.1.1), same ∙ sym at_ahead))
          | inr same ↦ (with_ahead dir).1 (inl (one.1 (inr (same ∙ sym at_aside))))
        ]
      ]),
    )
