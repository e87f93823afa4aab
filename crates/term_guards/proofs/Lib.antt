mod Guards
