use Rattle.stretch_words.proofs.take_word.Goals as goal

pub returns-in-256 : goal.returns-in-256
returns-in-256 c = c.either_operand.ensures _ _ _ _

pub returns-in-257 : goal.returns-in-257
returns-in-257 c = c.either_operand-in-257.ensures _ _ _ _

pub returns-in-260 : goal.returns-in-260
returns-in-260 c = c.either_operand-in-260.ensures _ _ _ _

pub returns-in-261 : goal.returns-in-261
returns-in-261 c = c.either_operand-in-261.ensures _ _ _ _

pub returns-in-264 : goal.returns-in-264
returns-in-264 c = c.either_operand-in-264.ensures _ _ _ _

pub returns-in-265 : goal.returns-in-265
returns-in-265 c = c.either_operand-in-265.ensures _ _ _ _

pub returns-in-268 : goal.returns-in-268
returns-in-268 c = c.either_operand-in-268.ensures _ _ _ _

pub returns-in-269 : goal.returns-in-269
returns-in-269 c = c.either_operand-in-269.ensures _ _ _ _

pub returns-in-272 : goal.returns-in-272
returns-in-272 c = c.either_operand-in-272.ensures _ _ _ _

pub returns-in-273 : goal.returns-in-273
returns-in-273 c = c.either_operand-in-273.ensures _ _ _ _

pub returns-in-276 : goal.returns-in-276
returns-in-276 c = c.either_operand-in-276.ensures _ _ _ _

pub returns-in-277 : goal.returns-in-277
returns-in-277 c = c.either_operand-in-277.ensures _ _ _ _

pub returns-in-280 : goal.returns-in-280
returns-in-280 c = c.either_operand-in-280.ensures _ _ _ _

pub returns-in-281 : goal.returns-in-281
returns-in-281 c = c.either_operand-in-281.ensures _ _ _ _

pub returns-in-284 : goal.returns-in-284
returns-in-284 c = c.either_operand-in-284.ensures _ _ _ _

pub returns-in-285 : goal.returns-in-285
returns-in-285 c = c.either_operand-in-285.ensures _ _ _ _

pub returns-in-288 : goal.returns-in-288
returns-in-288 c = c.either_operand-in-288.ensures _ _ _ _

pub returns-in-289 : goal.returns-in-289
returns-in-289 c = c.either_operand-in-289.ensures _ _ _ _

pub returns-in-292 : goal.returns-in-292
returns-in-292 c = c.either_operand-in-292.ensures _ _ _ _

pub returns-in-293 : goal.returns-in-293
returns-in-293 c = c.either_operand-in-293.ensures _ _ _ _

pub returns-in-296 : goal.returns-in-296
returns-in-296 c = c.either_operand-in-296.ensures _ _ _ _

pub returns-in-297 : goal.returns-in-297
returns-in-297 c = c.either_operand-in-297.ensures _ _ _ _

pub returns-in-300 : goal.returns-in-300
returns-in-300 c = c.either_operand-in-300.ensures _ _ _ _

pub returns-in-301 : goal.returns-in-301
returns-in-301 c = c.either_operand-in-301.ensures _ _ _ _
