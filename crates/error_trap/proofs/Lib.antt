mod TrapExamples
