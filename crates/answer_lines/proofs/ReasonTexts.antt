-- Reasons by their form.
use Rattle.std.proofs.Common.{◌≡◌, ◌⊎◌, ℕ, List, inl, inr, arith}
use Rattle.board_items.specs.declared.items.ItemId.{ItemId}
use Rattle.board_items.specs.declared.history.Why.{Why}
use Rattle.board_items.specs.declared.history.Why.TheVariants as whys
use Rattle.session_wire.specs.Replies.{why_text}
use Rattle.answer_lines.specs.Answers.{IsWhy, IsReason}
use Rattle.answer_lines.specs.Forms.{IsBare, IsOfAdd, IsOfItem, IsOfFence, IsOfOther, IsOfTwo, IsPlain, IsOther}

abbrev HasForm : List ℕ → Type 0
HasForm text = IsPlain text ⊎ IsOther text

abbrev id_of : ℕ → ItemId
id_of n = record { 0 = n }

form_of : (text : List ℕ) (why : Why) → IsWhy why → text ≡ why_text why → HasForm text
unfolding IsPlain IsOther IsBare IsOfAdd IsOfItem IsOfFence IsOfOther IsOfTwo
form_of text whys.Empty f e = inl (inl (inl e))
form_of text whys.Area f e = inl (inl (inr e))
form_of text (whys.Net add) f e = inl (inr (inl (inl (record { number = add; fits = omega (arith, f); spelled = e }))))
form_of text (whys.Layer add) f e = inl (inr (inl (inr (inl (record { number = add; fits = omega (arith, f); spelled = e })))))
form_of text (whys.Narrow add) f e = inl (inr (inl (inr (inr (inl (record { number = add; fits = omega (arith, f); spelled = e }))))))
form_of text (whys.Padstack add) f e = inl (inr (inl (inr (inr (inr (inl (record { number = add; fits = omega (arith, f); spelled = e })))))))
form_of text (whys.Range add) f e = inl (inr (inl (inr (inr (inr (inr (inl (record { number = add; fits = omega (arith, f); spelled = e }))))))))
form_of text (whys.Outside add) f e = inl (inr (inl (inr (inr (inr (inr (inr (record { number = add; fits = omega (arith, f); spelled = e }))))))))
form_of text (whys.Repeated id) f e = inl (inr (inr (inl (record { number = id.0; fits = omega (arith, f); spelled = e }))))
form_of text (whys.Missing id) f e = inl (inr (inr (inr (inl (record { number = id.0; fits = omega (arith, f); spelled = e })))))
form_of text (whys.Fixed id) f e = inl (inr (inr (inr (inr (inl (record { number = id.0; fits = omega (arith, f); spelled = e }))))))
form_of text (whys.Unheld id) f e = inl (inr (inr (inr (inr (inr (inl (record { number = id.0; fits = omega (arith, f); spelled = e })))))))
form_of text (whys.Covers id) f e = inl (inr (inr (inr (inr (inr (inr (record { number = id.0; fits = omega (arith, f); spelled = e })))))))
form_of text (whys.Protected fence) f e = inr (inl (inl (record { number = fence; fits = omega (arith, f); spelled = e })))
form_of text (whys.Overlap fence) f e = inr (inl (inr (inl (record { number = fence; fits = omega (arith, f); spelled = e }))))
form_of text (whys.NoFence fence) f e = inr (inl (inr (inr (inl (record { number = fence; fits = omega (arith, f); spelled = e })))))
form_of text (whys.NotOwner fence) f e = inr (inl (inr (inr (inr (record { number = fence; fits = omega (arith, f); spelled = e })))))
form_of text (whys.FenceLayer layer) f e = inr (inr (inl (inl (record { number = layer; fits = omega (arith, f); spelled = e }))))
form_of text (whys.Client client) f e = inr (inr (inl (inr (inl (record { number = client; fits = omega (arith, f); spelled = e })))))
form_of text (whys.NoClass class) f e = inr (inr (inl (inr (inr (record { number = class; fits = omega (arith, f); spelled = e })))))
form_of text (whys.Own a b) f e = inr (inr (inr (inl (record { first = a; second = b; first_fits = omega (arith, f.0); second_fits = omega (arith, f.1); spelled = e }))))
form_of text (whys.Clash add id) f e = inr (inr (inr (inr (inl (record { first = add; second = id.0; first_fits = omega (arith, f.0); second_fits = omega (arith, f.1); spelled = e })))))
form_of text (whys.Unclean a b) f e = inr (inr (inr (inr (inr (inl (record { first = a.0; second = b.0; first_fits = omega (arith, f.0); second_fits = omega (arith, f.1); spelled = e }))))))
form_of text (whys.Reserved id client) f e = inr (inr (inr (inr (inr (inr (record { first = id.0; second = client; first_fits = omega (arith, f.0); second_fits = omega (arith, f.1); spelled = e }))))))

pub reason_form : (text : List ℕ) → IsReason text → HasForm text
reason_form text r = form_of text r.why r.fits r.spelled

bare : (text : List ℕ) → IsBare text → IsReason text
unfolding IsBare
bare text h = elim h [
  | inl x ↦ record { why = whys.Empty; fits = tt; spelled = x }
  | inr x ↦ record { why = whys.Area; fits = tt; spelled = x }
]

of_add : (text : List ℕ) → IsOfAdd text → IsReason text
unfolding IsOfAdd
of_add text h = elim h [
  | inl x ↦ record { why = whys.Net x.number; fits = omega (arith, x.fits); spelled = x.spelled }
  | inr h ↦ elim h [
    | inl x ↦ record { why = whys.Layer x.number; fits = omega (arith, x.fits); spelled = x.spelled }
    | inr h ↦ elim h [
      | inl x ↦ record { why = whys.Narrow x.number; fits = omega (arith, x.fits); spelled = x.spelled }
      | inr h ↦ elim h [
        | inl x ↦ record { why = whys.Padstack x.number; fits = omega (arith, x.fits); spelled = x.spelled }
        | inr h ↦ elim h [
          | inl x ↦ record { why = whys.Range x.number; fits = omega (arith, x.fits); spelled = x.spelled }
          | inr x ↦ record { why = whys.Outside x.number; fits = omega (arith, x.fits); spelled = x.spelled }
        ]
      ]
    ]
  ]
]

of_item : (text : List ℕ) → IsOfItem text → IsReason text
unfolding IsOfItem
of_item text h = elim h [
  | inl x ↦ record { why = whys.Repeated (id_of x.number); fits = omega (arith, x.fits); spelled = x.spelled }
  | inr h ↦ elim h [
    | inl x ↦ record { why = whys.Missing (id_of x.number); fits = omega (arith, x.fits); spelled = x.spelled }
    | inr h ↦ elim h [
      | inl x ↦ record { why = whys.Fixed (id_of x.number); fits = omega (arith, x.fits); spelled = x.spelled }
      | inr h ↦ elim h [
        | inl x ↦ record { why = whys.Unheld (id_of x.number); fits = omega (arith, x.fits); spelled = x.spelled }
        | inr x ↦ record { why = whys.Covers (id_of x.number); fits = omega (arith, x.fits); spelled = x.spelled }
      ]
    ]
  ]
]

of_fence : (text : List ℕ) → IsOfFence text → IsReason text
unfolding IsOfFence
of_fence text h = elim h [
  | inl x ↦ record { why = whys.Protected x.number; fits = omega (arith, x.fits); spelled = x.spelled }
  | inr h ↦ elim h [
    | inl x ↦ record { why = whys.Overlap x.number; fits = omega (arith, x.fits); spelled = x.spelled }
    | inr h ↦ elim h [
      | inl x ↦ record { why = whys.NoFence x.number; fits = omega (arith, x.fits); spelled = x.spelled }
      | inr x ↦ record { why = whys.NotOwner x.number; fits = omega (arith, x.fits); spelled = x.spelled }
    ]
  ]
]

of_other : (text : List ℕ) → IsOfOther text → IsReason text
unfolding IsOfOther
of_other text h = elim h [
  | inl x ↦ record { why = whys.FenceLayer x.number; fits = omega (arith, x.fits); spelled = x.spelled }
  | inr h ↦ elim h [
    | inl x ↦ record { why = whys.Client x.number; fits = omega (arith, x.fits); spelled = x.spelled }
    | inr x ↦ record { why = whys.NoClass x.number; fits = omega (arith, x.fits); spelled = x.spelled }
  ]
]

of_two : (text : List ℕ) → IsOfTwo text → IsReason text
unfolding IsOfTwo
of_two text h = elim h [
  | inl x ↦ record { why = whys.Own x.first x.second; fits = (omega (arith, x.first_fits), omega (arith, x.second_fits)); spelled = x.spelled }
  | inr h ↦ elim h [
    | inl x ↦ record { why = whys.Clash x.first (id_of x.second); fits = (omega (arith, x.first_fits), omega (arith, x.second_fits)); spelled = x.spelled }
    | inr h ↦ elim h [
      | inl x ↦ record { why = whys.Unclean (id_of x.first) (id_of x.second); fits = (omega (arith, x.first_fits), omega (arith, x.second_fits)); spelled = x.spelled }
      | inr x ↦ record { why = whys.Reserved (id_of x.first) x.second; fits = (omega (arith, x.first_fits), omega (arith, x.second_fits)); spelled = x.spelled }
    ]
  ]
]

of_plain : (text : List ℕ) → IsPlain text → IsReason text
unfolding IsPlain
of_plain text h = elim h [
  | inl x ↦ bare text x
  | inr h ↦ elim h [
    | inl x ↦ of_add text x
    | inr x ↦ of_item text x
  ]
]

of_rest : (text : List ℕ) → IsOther text → IsReason text
unfolding IsOther
of_rest text h = elim h [
  | inl x ↦ of_fence text x
  | inr h ↦ elim h [
    | inl x ↦ of_other text x
    | inr x ↦ of_two text x
  ]
]

pub reason_of : (text : List ℕ) → HasForm text → IsReason text
reason_of text h = elim h [ inl x ↦ of_plain text x | inr x ↦ of_rest text x ]
